-- The schemes of a sound table are lawful: their order is antisymmetric, and different codes are different qualifiers.
use mathlib.Core.Path.{sym, ap, ◌∙◌}
use lib.ListN.{length}
use Rattle.scheme.specs.Schemes.{SchemeTable, Sound}
use Rattle.scheme.specs.Qualifier.{code}
use Rattle.scheme.proofs.Qualifier.{code_qualifier, code_injective}
use Rattle.scheme.proofs.Schemes.{antisymmetric}
use Rattle.model.specs.Strength.{schemes_of}
use Rattle.model.proofs.Unique.{Lawful}

pub sound_lawful : (T : SchemeTable) → Sound T → Lawful (schemes_of T)
sound_lawful T sound =
    record {
      antisymmetric = λ q r h k. code_injective q r (antisymmetric T sound.differ (code q) (code r) h k);
      distinct = λ a b h k e. sym (code_qualifier (length T.names) a h) ∙ ap code e ∙ code_qualifier (length T.names) b k;
    }
