-- The commands are tried in turn.
use Rattle.std.proofs.Common.{List, ℕ, true, false, refl, rules, arith, sym, ap, ◌∙◌}
use Rattle.model.specs.Lists.{bytes}
use Rattle.conversation.specs.Script.{argument, before_blank, after_blank, redeclare_of}
use Rattle.command.specs.Said.{said}
use Rattle.command.proofs.Reading.{begins_by, begins_stripped, is_add, is_redeclare, is_take_back, is_infer, is_schemes, is_run, is_nothing}
use Rattle.command.proofs.read.Goals as goal

pub returns-then-starts_with : goal.returns-then-starts_with
unfolding said
returns-then-starts_with c = (is_add c.args.s.now _ (begins_by (bytes "add ") c.args.s.now _ true c.starts_with.ensures.value c.if-starts_with.true) refl, c.starts_with.ensures.bound (search rules))

pub returns-in-Some : goal.returns-in-Some
returns-in-Some c = (
  is_redeclare c.args.s.now _
      (begins_by (bytes "add ") c.args.s.now _ false c.starts_with.ensures.value c.if-starts_with.false)
      (begins_stripped (bytes "redeclare ") c.args.s.now true c.in-Some.ensures.cases.0)
      (c.redeclare_in.ensures.0 c.args.s.now ∙ ap (λ (rest : List ℕ). redeclare_of (argument (before_blank rest)) (argument (after_blank rest))) c.in-Some.ensures.cases.1),
  omega (arith, c.redeclare_in.ensures.1),
)

pub returns-then-same : goal.returns-then-same
unfolding said
returns-then-same c = (
  is_take_back c.args.s.now _
      (begins_by (bytes "add ") c.args.s.now _ false c.starts_with.ensures.value c.if-starts_with.false)
      (begins_stripped (bytes "redeclare ") c.args.s.now false c.in_default.ensures.cases)
      (sym c.same.ensures ∙ c.if-same.true) refl,
  omega arith,
)

pub returns-then-same-2 : goal.returns-then-same-2
unfolding said
returns-then-same-2 c = (
  is_infer c.args.s.now _
      (begins_by (bytes "add ") c.args.s.now _ false c.starts_with.ensures.value c.if-starts_with.false)
      (begins_stripped (bytes "redeclare ") c.args.s.now false c.in_default.ensures.cases)
      (sym c.same.ensures ∙ c.if-same.false)
      (sym c.same-2.ensures ∙ c.if-same-2.true) refl,
  omega arith,
)

pub returns-then-starts_with-2 : goal.returns-then-starts_with-2
unfolding said
returns-then-starts_with-2 c = (
  is_schemes c.args.s.now _
      (begins_by (bytes "add ") c.args.s.now _ false c.starts_with.ensures.value c.if-starts_with.false)
      (begins_stripped (bytes "redeclare ") c.args.s.now false c.in_default.ensures.cases)
      (sym c.same.ensures ∙ c.if-same.false)
      (sym c.same-2.ensures ∙ c.if-same-2.false)
      (begins_by (bytes "schemes ") c.args.s.now _ true c.starts_with-2.ensures.value c.if-starts_with-2.true) refl,
  c.starts_with-2.ensures.bound (search rules),
)

pub returns-then-starts_with-3 : goal.returns-then-starts_with-3
unfolding said
returns-then-starts_with-3 c = (
  is_run c.args.s.now _
      (begins_by (bytes "add ") c.args.s.now _ false c.starts_with.ensures.value c.if-starts_with.false)
      (begins_stripped (bytes "redeclare ") c.args.s.now false c.in_default.ensures.cases)
      (sym c.same.ensures ∙ c.if-same.false)
      (sym c.same-2.ensures ∙ c.if-same-2.false)
      (begins_by (bytes "schemes ") c.args.s.now _ false c.starts_with-2.ensures.value c.if-starts_with-2.false)
      (begins_by (bytes "run ") c.args.s.now _ true c.starts_with-3.ensures.value c.if-starts_with-3.true) refl,
  c.starts_with-3.ensures.bound (search rules),
)

pub returns : goal.returns
unfolding said
returns c = (
  is_nothing c.args.s.now _
      (begins_by (bytes "add ") c.args.s.now _ false c.starts_with.ensures.value c.if-starts_with.false)
      (begins_stripped (bytes "redeclare ") c.args.s.now false c.in_default.ensures.cases)
      (sym c.same.ensures ∙ c.if-same.false)
      (sym c.same-2.ensures ∙ c.if-same-2.false)
      (begins_by (bytes "schemes ") c.args.s.now _ false c.starts_with-2.ensures.value c.if-starts_with-2.false)
      (begins_by (bytes "run ") c.args.s.now _ false c.starts_with-3.ensures.value c.if-starts_with-3.false) refl,
  omega arith,
)
