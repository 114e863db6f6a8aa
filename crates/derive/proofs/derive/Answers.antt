-- Each end hands over what the calls before it ensure.
use native.Mathlib.Omega.{arith}
use mathlib.Core.Path.{◌≡◌, refl, sym, ◌∙◌}
use Rattle.std.specs.Prelude.{Some, None}
use Rattle.std.proofs.lemmas.Result.{err_from_is_err_and}
use Rattle.derive.specs.declared.Missing.TheVariants.{Meet, Highest}
use Rattle.derive.specs.Derives.{Holds}
use Rattle.derive.proofs.Filling.{best_some}
use Rattle.derive.proofs.Deriving.{no_top, no_meets, no_highest, derived_all}
use Rattle.derive.proofs.derive.Goals as goal

pub returns-in_err-top : goal.returns-in_err-top
returns-in_err-top c = λ T holds.
    let order = c.new-order.result in
    let held : Holds T order.words c.args.bits = rw c.new-order.ensures.words holds in
    let none : c.greatest.result ≡ None = grind arith in
    let missing : c.in_err-top.field-0.0 ≡ Meet = grind arith in
    let p = err_from_is_err_and c.from_residual.result c.from_residual.ensures.1 in
    rw (p.1, p.2, missing) (no_top T order.words _ _ order.few held c.new-order.ensures.ordered _ refl (sym none ∙ c.greatest.ensures))

pub returns-in_err-meets : goal.returns-in_err-meets
returns-in_err-meets c = λ T holds.
    let order = c.new-order.result in
    let held : Holds T order.words c.args.bits = rw c.new-order.ensures.words holds in
    let none : c.meets.result ≡ None = grind arith in
    let missing : c.in_err-meets.field-0.0 ≡ Meet = grind arith in
    let p = err_from_is_err_and c.from_residual-in_err-meets.result c.from_residual-in_err-meets.ensures.1 in
    rw (p.1, p.2, missing) (no_meets T order.words _ _ order.few held c.new-order.ensures.ordered _ refl (rw none at c.meets.ensures))

pub returns-in_err-highest : goal.returns-in_err-highest
returns-in_err-highest c = λ T holds.
    let order = c.new-order.result in
    let held : Holds T order.words c.args.bits = rw c.new-order.ensures.words holds in
    let top : c.greatest.result ≡ Some c.in_ok-top.top = grind arith in
    let meets : c.meets.result ≡ Some c.in_ok-meets.meets = grind arith in
    let none : c.highest.result ≡ None = grind arith in
    let missing : c.in_err-highest.field-0.0 ≡ Highest = grind arith in
    let p = err_from_is_err_and c.from_residual-in_err-highest.result c.from_residual-in_err-highest.ensures.1 in
    rw (p.1, p.2, missing)
    (no_highest T order.words _ _ order.few held c.new-order.ensures.ordered _ refl _ (sym top ∙ c.greatest.ensures) _ (rw meets at c.meets.ensures) (rw none at c.highest.ensures))

pub overflow_cast-result : goal.overflow_cast-result
overflow_cast-result c =
    let some : c.greatest.result ≡ Some c.in_ok-top.top = grind arith in
    omega (arith, c.new-order.result.few, best_some c.new-order.result.below c.new-order.result.words _ c.in_ok-top.top (sym some ∙ c.greatest.ensures))

pub returns : goal.returns
returns c = λ T holds.
    let order = c.new-order.result in
    let held : Holds T order.words c.args.bits = rw c.new-order.ensures.words holds in
    let top : c.greatest.result ≡ Some c.in_ok-top.top = grind arith in
    let meets : c.meets.result ≡ Some c.in_ok-meets.meets = grind arith in
    let highest : c.highest.result ≡ Some c.in_ok-highest.highest = grind arith in
    derived_all T order.words _ _ order.few held c.new-order.ensures.ordered _ refl _ (sym top ∙ c.greatest.ensures) _ (rw meets at c.meets.ensures) _ (rw highest at c.highest.ensures)
