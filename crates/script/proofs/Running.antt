-- The numbers that were read of a run are its command, which what is written answers.
use Prim.Native.Nat.{ℕ, zero, suc, ◌-◌, ◌≤◌, ◌<◌}
use native.Mathlib.Omega.{arith}
use mathlib.Core.List.{List, [], ◌∷◌}
use mathlib.Core.Path.{◌≡◌, refl, sym, ap, subst, ◌∙◌}
use lib.ListN.{length, get_or, take, drop}
use Rattle.model.specs.Machine.{Machine}
use Rattle.dryrun.specs.Run.{DryRuns}
use Rattle.dryrun.specs.Run as Run
use Rattle.conversation.specs.Script.{front_words, arguments_of, run_with, run_of, ran_line, unknown, Replies}
use Rattle.conversation.specs.Script as Script
use Rattle.report.specs.Writing.{Front}
use Rattle.script.specs.Turns.{Told}

module _ (words : List ℕ) where
  no_run : arguments_of (front_words 66 words) ≡ [] → run_of words ≡ Script.no_command
  unfolding run_of
  no_run none = ap run_with none

  pub unknown_told : (m : Machine) (buffer : List ℕ) (size : ℕ) → arguments_of (front_words 66 words) ≡ [] → Front unknown buffer size → Told m (run_of words) buffer size
  unknown_told m buffer size none front =
      record {
        replies = λ s is. subst (λ (text : List ℕ). Replies m s text m) (sym front.bytes) (Replies.passes (is ∙ no_run none));
        fits = front.fits;
      }

  module _ (into : List ℕ) (count : ℕ) (reads : take count into ≡ arguments_of (front_words 66 words)) where
    -- The budget stands first.
    some_run : 0 < count → count ≤ length into → run_of words ≡ Script.run (get_or into 0 0) (take (count - 1) (drop 1 into))
    unfolding run_of
    some_run some fits = ap run_with (sym reads) ∙ first into count some fits
      where
        first : (l : List ℕ) (n : ℕ) → 0 < n → n ≤ length l → run_with (take n l) ≡ Script.run (get_or l 0 0) (take (n - 1) (drop 1 l))
        first l zero z h = absurd (omega arith)
        first [] (suc n) z h = absurd (omega arith)
        first (budget ∷ numbers) (suc n) z h = let e : suc n - 1 ≡ n = omega arith in rw e

    pub run_told : (m : Machine) (buffer : List ℕ) (size : ℕ) (o : Run.Outcome) → 0 < count → count ≤ length into → DryRuns m (take (count - 1) (drop 1 into)) (get_or into 0 0) o →
        Front (ran_line m o) buffer size → Told m (run_of words) buffer size
    run_told m buffer size o some fits runs front =
        record {
          replies = λ s is. subst (λ (text : List ℕ). Replies m s text m) (sym front.bytes) (Replies.runs (is ∙ some_run some fits) runs);
          fits = front.fits;
        }
