-- After any bytes the reader answers as the definition does for them as a whole field, by the contracts of its functions.
use Prim.Native.Nat.{ℕ}
use mathlib.Core.List.{List, [], ◌∷◌, ◌++◌}
use mathlib.Core.Path.{◌≡◌}
use seplogic.Ra.Ura.{Ura}
use base.Logic.{SProp, ent}
use prog.Memory.{Memory}
use prog.Routine.{Routine}
use types.Logic.{Logic}
use contract.Monad.{Fun, fact, fact_mono}
use contract.Lifetimes.{Lfts}
use Rattle.std.specs.Prelude.{Option}
use Rattle.model.specs.Number.{number_of}
use Rattle.numbers.specs.OnePass.{after, Feeds, Answers, Fed, started, fed}
use Rattle.numbers.specs.declared.Reader.{Reader}
use Rattle.numbers.specs.contracts.Reader.start as reader-start
use Rattle.numbers.specs.contracts.Reader.feed as reader-feed
use Rattle.numbers.specs.contracts.Reader.answer as reader-answer

fed_after : {s : List ℕ} {reader : Reader} → Fed s reader → reader ≡ after s
unfolding Feeds
fed_after (started e) = e
fed_after (fed {s} b before feeds) = feeds s (fed_after before)

pub fed_answers : {s : List ℕ} {reader : Reader} (most : ℕ) {answer : Option ℕ} → Fed s reader → Answers reader most answer → answer ≡ number_of most s
unfolding Answers
fed_answers {s} most read answers = answers s (fed_after read)

-- The steps and the answer are what the functions ensure: each lemma is over the clauses made of the source, so a changed contract breaks it.
module _ {M : Type 1} {𝓤 : Ura M} (𝓛 : Logic 𝓤) (at_mem : Memory → SProp 𝓤) (run : Routine → Fun 𝓤) where
  pub start_contract : (κs : Lfts 0) (r : Reader) → ent 𝓤 ((reader-start.clauses 𝓛 at_mem run κs tt).ensures tt r tt) (fact 𝓤 (Fed [] r))
  start_contract κs r = fact_mono 𝓤 _ _ (λ e. started e)

  module _ (s : List ℕ) (reader reader' : Reader) (read : Fed s reader) where
    pub feed_contract : (κs : Lfts 0) (b b' : ℕ) (r : Reader) → ent 𝓤 ((reader-feed.clauses 𝓛 at_mem run κs (reader, (b, tt))).ensures tt r (reader', (b', tt))) (fact 𝓤 (Fed (s ++ (b ∷ [])) r))
    feed_contract κs b b' r = fact_mono 𝓤 _ _ (λ feeds. fed b read feeds)

    pub answer_contract : (κs : Lfts 0) (most most' : ℕ) (r : Option ℕ) →
        ent 𝓤 ((reader-answer.clauses 𝓛 at_mem run κs (reader, (most, tt))).ensures tt r (reader', (most', tt))) (fact 𝓤 (r ≡ number_of most s))
    answer_contract κs most most' r = fact_mono 𝓤 _ _ (λ answers. fed_answers most read answers)
