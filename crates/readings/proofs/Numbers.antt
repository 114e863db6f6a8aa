-- Typings over the qualifiers of a scheme table and typings over numbers are the same thing.
use Prim.Native.Nat.{ℕ, ◌<◌}
use mathlib.Core.Bool.{true}
use mathlib.Core.Path.{◌≡◌, refl}
use lib.ListN.{length}
use Rattle.scheme.specs.Schemes.{SchemeTable, words, below, highest_of, Sound}
use Rattle.scheme.specs.Qualifier.{code, qualifier}
use Rattle.scheme.proofs.Qualifier.{qualifier_code, code_qualifier}
use Rattle.scheme.proofs.Schemes.{below_code, highest_code_all}
use Rattle.model.specs.Typing.{Rules}
use Rattle.model.specs.Strength.{whole, unordered, erased, schemes_of}
use Rattle.model.proofs.Weaker.{Weakening}

-- The number of the qualifier that a code stands for.
abbrev pub coded : SchemeTable → ℕ → ℕ
coded T c = code (qualifier (length T.names) c)

pub coded_same : (T : SchemeTable) (c : ℕ) → c < words T → coded T c ≡ c
coded_same T c h = code_qualifier (length T.names) c h

-- The whole rules, those without "at or below", and those with one qualifier only, over numbers.
abbrev pub numbered : SchemeTable → Rules
numbered T = record { Q = ℕ; words = words T; word = coded T; Fits = λ o q. below T q (highest_of T o) ≡ true }

abbrev pub loose : SchemeTable → Rules
loose T = record { Q = ℕ; words = words T; word = coded T; Fits = λ o q. Unit {0} }

abbrev pub blind : SchemeTable → Rules
blind T = record { Q = ℕ; words = words T; word = λ c. 0; Fits = λ o q. Unit {0} }

module _ (T : SchemeTable) where
  abbrev pub whole_numbered : Sound T → Weakening (whole (schemes_of T)) (numbered T)
  whole_numbered sound =
      record { image = code; same_words = refl; same_word = λ c. refl; fits = λ o q h. rw (coded_same T (highest_of T o) (highest_code_all sound o)) at h }

  abbrev pub numbered_whole : Sound T → Weakening (numbered T) (whole (schemes_of T))
  numbered_whole sound =
      record {
        image = qualifier (length T.names);
        same_words = refl;
        same_word = λ c. qualifier_code (qualifier (length T.names) c);
        fits = λ o q h. rw (coded_same T (highest_of T o) (highest_code_all sound o), coded_same T q (below_code T q (highest_of T o) h)) h;
      }

  abbrev pub unordered_loose : Weakening (unordered (schemes_of T)) (loose T)
  unordered_loose = record { image = code; same_words = refl; same_word = λ c. refl; fits = λ o q h. tt }

  abbrev pub loose_unordered : Weakening (loose T) (unordered (schemes_of T))
  loose_unordered =
      record { image = qualifier (length T.names); same_words = refl; same_word = λ c. qualifier_code (qualifier (length T.names) c); fits = λ o q h. tt }

  abbrev pub erased_blind : Weakening (erased (schemes_of T)) (blind T)
  erased_blind = record { image = λ q. 0; same_words = refl; same_word = λ c. refl; fits = λ o q h. tt }

  abbrev pub blind_erased : Weakening (blind T) (erased (schemes_of T))
  blind_erased = record { image = λ q. tt; same_words = refl; same_word = λ c. refl; fits = λ o q h. tt }
