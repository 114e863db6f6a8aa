-- Each way out by its law; a byte is a digit where it is not below 0 and not above 9.
use Prim.Native.Nat.{◌≤◌, ◌<◌}
use native.Mathlib.Omega.{arith}
use mathlib.Core.Path.{◌≡◌}
use borrow.Author.Rules.{rules}
use Rattle.numbers.proofs.Feeding.{feeds}
use Rattle.numbers.proofs.Reader.feed.Goals as goal

pub returns-then-b-lt48 : goal.returns-then-b-lt48
returns-then-b-lt48 c = search (feeds, rules)

pub returns-then-b-gt57 : goal.returns-then-b-gt57
returns-then-b-gt57 c = let above : 57 < c.args.b = omega arith in search (feeds, rules)

pub returns-then-not-self : goal.returns-then-not-self
returns-then-not-self c = let high : c.args.b ≤ 57 = omega arith in search (feeds, rules)

pub returns-then-self : goal.returns-then-self
returns-then-self c = search (feeds, rules)

pub returns-then-self-eq0 : goal.returns-then-self-eq0
returns-then-self-eq0 c = let zero : c.args.self.number ≡ 0 = omega arith in search (feeds, rules)

pub returns-then-n : goal.returns-then-n
returns-then-n c = search (feeds, rules)

pub returns : goal.returns
returns c = let high : c.args.b ≤ 57 = omega arith in search (feeds, rules)
