-- The buffer has, at each turn, the answers for the fronts so far, and from there on what it had before.
use Prim.Native.Nat.{ℕ, zero, suc, ◌+◌, ◌-◌, ◌≤◌, ◌<◌}
use native.Mathlib.Omega.{arith}
use native.Mathlib.Numerals.{add-one}
use mathlib.Core.List.{List, [], ◌∷◌, ◌++◌, append_assoc}
use mathlib.Core.Path.{◌≡◌, refl, ap, ◌∙◌}
use lib.ListN.{length, get_or, set, take, drop, length-set, length-append}
use lib.Seq.{drop-cons, set_at}
use borrow.Author.Tests.{le-leb, lt-leb}
use Rattle.std.specs.Prelude.{Option}
use Rattle.model.specs.Number.{number_of}
use Rattle.numbers.specs.OnePass.{after, Feeds, Answers}
use Rattle.numbers.specs.declared.Reader.{Reader}
use Rattle.numbers.proofs.Passes.{Passed, pass_first, pass_next, pass_answer}
use Rattle.test_number_export.specs.Prefixes.{code_of, answers_before, AnswersInto}

answers_length : (most : ℕ) (s : List ℕ) (n : ℕ) → length (answers_before most s n) ≡ n
unfolding answers_before
answers_length most s zero = refl
answers_length most s (suc n) = simp (length-append, answers_length most s n) (omega arith)

pub record Asked (most : ℕ) (s before out : List ℕ) (i : ℕ) (reader : Reader) : Type 0 where
  pub within : i ≤ length s
  pub room : length s < length before
  pub passed : Passed s 0 i reader
  pub long : length out ≡ length before
  pub holds : out ≡ answers_before most s i ++ drop i before

pub ask_short : (most : ℕ) (s out : List ℕ) → length out ≤ length s → AnswersInto s most out 0 out
unfolding answers_before
ask_short most s out h = record { counted = simp (le-leb (length out) (length s) h); left = refl }

pub ask_first : (most : ℕ) (s before : List ℕ) (reader : Reader) → length s < length before → reader ≡ after [] → Asked most s before before 0 reader
unfolding answers_before
ask_first most s before reader h e = record { within = omega arith; room = h; passed = pass_first s 0 reader e; long = refl; holds = refl }

module _ (most : ℕ) (s before out : List ℕ) (i : ℕ) (reader : Reader) (asked : Asked most s before out i reader) (answer : Option ℕ) (answers : Answers reader most answer) (v : ℕ) (is : v ≡ code_of answer) where
  stored : set out i v ≡ answers_before most s (suc i) ++ drop (suc i) before
  unfolding answers_before
  stored =
      let same : i - 0 ≡ i = omega arith in
      let value : v ≡ code_of (number_of most (take i s)) = is ∙ ap code_of (rw same at (pass_answer s 0 i reader asked.passed most answer answers)) in
      let here : i < length before = omega (arith, asked.within, asked.room) in
      simp (asked.holds, drop-cons before i 0 here, append_assoc) (set_at (answers_before most s i) (get_or before i 0) (drop (suc i) before) v i (answers_length most s i) ∙ ap (λ (n : ℕ). answers_before most s i ++ (n ∷ drop (suc i) before)) value)

  pub ask_next : i < length s → (next : Reader) → Feeds reader (get_or s i 0) next → Asked most s before (set out i v) (i + 1) next
  ask_next h next feeds =
      record {
        within = omega arith;
        room = asked.room;
        passed = pass_next s 0 i reader asked.passed h next feeds;
        long = length-set out i v ∙ asked.long;
        holds = rw add-one stored;
      }

  pub ask_last : length s ≤ i → AnswersInto s most before (i + 1) (set out i v)
  ask_last h =
      let within : i ≤ length s = asked.within in
      let last : i ≡ length s = omega arith in
      record { counted = simp (lt-leb (length before) (length s) asked.room) (omega arith); left = rw add-one stored }

pub ruleset asks = (ask_short, ask_first, ask_next, ask_last)
