-- What is found of the floors by their codes and the ruling holds of the machine that stands in the table.
use Prim.Native.Nat.{ℕ, ◌<◌}
use native.Mathlib.Omega.{arith}
use mathlib.Core.List.{List}
use mathlib.Core.Path.{◌≡◌, sym, ap, ap₂, ◌∙◌}
use lib.ListN.{length, get_or}
use Rattle.std.specs.Prelude.{Some, None}
use Rattle.scheme.specs.Qualifier.{code, qualifier}
use Rattle.scheme.specs.Schemes.{words, below}
use Rattle.scheme.specs.Rule.{under}
use Rattle.scheme.proofs.Qualifier.{code_qualifier}
use Rattle.scheme.proofs.Rule.{under_same}
use Rattle.model.specs.Machine.{Machine, param_in, param_at}
use Rattle.model.specs.Inference.{ruling, param, WordMeetsFloor, FloorsMet, FloorMissed}
use Rattle.model.specs.declared.Param.{Param}
use Rattle.table.specs.Lists.{lists}
use Rattle.table.specs.declared.Table.{Table}
use Rattle.table.proofs.Entries.{param_at_lem}
use Rattle.report.specs.Codes.{coded_word}
use Rattle.report.specs.declared.Codes.{Codes}
use Rattle.solver.specs.Runs.{Placed}
use Rattle.floors.specs.Lowest.{Worded, Holds, Lowest}
use Rattle.table.specs.Ready.{Ready}
use Rattle.inference.proofs.Judging.{ready_governed}

module _ (t : Table) (ready : Ready t) (codes : Codes) (placed : Placed (lists t) codes) (count : ℕ) (counted : count ≡ length (lists t).params) where
  abbrev R : List ℕ
  R = t.schemes.rule

  abbrev m : Machine
  m = lists t

  module _ (p : ℕ) (below_count : p < count) where
    stands : p < length m.params
    stands = rw counted at below_count

    same_floor : (param_in t.params p).floor ≡ (param_at m p).floor
    same_floor = ap (λ (d : Param). d.floor) (sym (param_at_lem t p stands))

    floor_code : (param_in t.params p).floor < words m.schemes
    floor_code = omega (arith, same_floor, (ready.is_well_formed.params_stand p stands).2)

    word_code : get_or codes.paramwords p 0 < words m.schemes
    word_code = placed.0.worded (param p) stands

    -- the order by codes is the order of the qualifiers
    same_test : under R (param_in t.params p).floor (get_or codes.paramwords p 0) ≡ below m.schemes (code (qualifier (length m.schemes.names) (param_at m p).floor)) (code (qualifier (length m.schemes.names) (get_or codes.paramwords p 0)))
    same_test =
        under_same ready.is_well_formed.schemes_sound (ready_governed t ready).ruled _ _ floor_code word_code
        ∙ ap₂ (below m.schemes)
        (sym (code_qualifier (length m.schemes.names) _ floor_code) ∙ ap (λ (c : ℕ). code (qualifier (length m.schemes.names) c)) same_floor)
        (sym (code_qualifier (length m.schemes.names) _ word_code))

    meets : Holds R t.params codes.paramwords p → WordMeetsFloor (ruling m) m (coded_word codes) p
    meets holds = sym same_test ∙ holds

    misses : ¬ Holds R t.params codes.paramwords p → ¬ WordMeetsFloor (ruling m) m (coded_word codes) p
    misses missed met = missed (same_test ∙ met)

  pub codes_worded : Worded R count t.params codes.paramwords
  codes_worded p h =
      let many = (ready_governed t ready).ruled.words_same in
      (omega (arith, many, floor_code p h), omega (arith, many, word_code p h))

  pub every_met : Lowest R count t.params codes.paramwords None → FloorsMet (ruling m) m (coded_word codes)
  every_met found p h = let within : p < count = omega arith in meets p within (found p within)

  pub one_missed : (p : ℕ) → Lowest R count t.params codes.paramwords (Some p) → FloorMissed (ruling m) m (coded_word codes) p
  one_missed p found =
      let h : p < count = found.0 in
      record {
        declared = stands p h;
        before = λ r earlier. meets r (omega arith) (found.1 r earlier);
        missed = misses p h found.2;
      }
