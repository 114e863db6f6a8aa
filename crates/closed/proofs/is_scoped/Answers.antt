-- The walk of proofs/Walk: a row is passed after its parent, and has the set of the parameters in scope there.
use native.Mathlib.Omega.{arith}
use mathlib.Core.Bool.{false≢true}
use mathlib.Core.List.{[], ◌∷◌}
use mathlib.Core.Path.{refl, sym, ap}
use lib.ListN.{replicate}
use Rattle.std.proofs.Common.{None}
use Rattle.checks.specs.Children.{listed}
use Rattle.checks.proofs.Marking.{repeated}
use Rattle.table.specs.Lists.{lists}
use Rattle.closed.proofs.Walk.{walk_starts, walk_ends, only_within, first_within, second_within, row_not_reached, var_not_found, row_turned}
use Rattle.closed.proofs.is_scoped.Goals as goal

pub loop-i-init : goal.loop-i-init
loop-i-init c = walk_starts (lists c.args.table) c.requires.0 _ (replicate 256 None) c.term_rows-rows.ensures.0 (omega arith) refl (λ k. repeated 256 k None)

pub returns-in_default : goal.returns-in_default
returns-in_default c = row_not_reached c.args.table c.requires.0 _ _ c.loop-i.invariant c.loop-i-test.true c.in_default.is

pub returns-then-not-reads_within : goal.returns-then-not-reads_within
returns-then-not-reads_within c = var_not_found c.args.table c.requires.0 _ _ c.loop-i.invariant c.loop-i-test.true _ c.in-Some.is _ c.reads_within.ensures c.if-not-reads_within.true

pub loop-i-preserved-in-Nothing : goal.loop-i-preserved-in-Nothing
loop-i-preserved-in-Nothing c = row_turned c.args.table c.requires.0 _ _ c.loop-i.invariant c.loop-i-test.true _ c.in-Some.is _ c.reads_within.ensures
    c.if-not-reads_within.false _ c.with_binder-inner.ensures c.children_of.result c.children_of.ensures [] (ap listed c.in-Nothing.is)

pub bounds-scopes-only : goal.bounds-scopes-only
bounds-scopes-only c = only_within c.args.table c.requires.0 _ _ c.loop-i.invariant c.loop-i-test.true c.children_of.result c.children_of.ensures _ c.in-One.is

pub loop-i-preserved-in-One : goal.loop-i-preserved-in-One
loop-i-preserved-in-One c = row_turned c.args.table c.requires.0 _ _ c.loop-i.invariant c.loop-i-test.true _ c.in-Some.is _ c.reads_within.ensures
    c.if-not-reads_within.false _ c.with_binder-inner.ensures c.children_of.result c.children_of.ensures (_ ∷ []) (ap listed c.in-One.is)

pub bounds-scopes-first : goal.bounds-scopes-first
bounds-scopes-first c = first_within c.args.table c.requires.0 _ _ c.loop-i.invariant c.loop-i-test.true c.children_of.result c.children_of.ensures _ _ c.in-Two.is

pub bounds-scopes-second : goal.bounds-scopes-second
bounds-scopes-second c = second_within c.args.table c.requires.0 _ _ c.loop-i.invariant c.loop-i-test.true c.children_of.result c.children_of.ensures _ _ c.in-Two.is

pub loop-i-preserved : goal.loop-i-preserved
loop-i-preserved c = row_turned c.args.table c.requires.0 _ _ c.loop-i.invariant c.loop-i-test.true _ c.in-Some.is _ c.reads_within.ensures
    c.if-not-reads_within.false _ c.with_binder-inner.ensures c.children_of.result c.children_of.ensures (_ ∷ _ ∷ []) (ap listed c.in-Two.is)

pub returns : goal.returns
returns c = record { tree = λ e. walk_ends (lists c.args.table) c.requires.0 _ _ (omega (arith, c.loop-i-test.false)) c.loop-i.invariant; no_tree = λ e closed. false≢true (sym e) }
