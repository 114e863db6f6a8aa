-- Before the first such byte of the rest stand as many bytes as its place there says.
use Rattle.std.proofs.Common.{◌≡◌, ◌+◌, nat_eq, length, rules, drop, refl, ap, ◌∙◌}
use Rattle.std.specs.List.{position}
use Rattle.std.specs.Option.{unwrap_or}
use Rattle.std.proofs.lemmas.Iterator.{YieldsList-from_slice}
use Rattle.std.proofs.lemmas.Iterator.Search.{position_from_yields_List}
use Rattle.model.specs.Lists.{length_before}
use Rattle.lines.proofs.Lines.{place_before, rest_or_empty}
use Rattle.lines.proofs.find.Goals as goal

pub returns : goal.returns
returns c =
    let found : c.position.result ≡ position (λ b. nat_eq b c.args.byte) c.unwrap_or-rest.result.now =
    position_from_yields_List (λ b. nat_eq b c.args.byte) _ _ c.position.result c.position.ensures.ran (YieldsList-from_slice _ c.iter.ensures.rest) (λ x b q k. search rules) in
    let rest : c.unwrap_or-rest.result.now ≡ drop c.args.from c.args.s.now = ap (λ r. r.now) c.unwrap_or-rest.ensures ∙ rest_or_empty (λ r. r.now) c.args.s.now c.args.from c.get.result _ refl c.get.ensures.lookup in
    let place : c.unwrap_or.result ≡ length_before c.args.byte c.unwrap_or-rest.result.now =
    c.unwrap_or.ensures ∙ ap (λ o. unwrap_or o (length c.unwrap_or-rest.result.now)) found ∙ place_before c.args.byte c.unwrap_or-rest.result.now in
    ap (λ n. c.args.from + n) (place ∙ ap (length_before c.args.byte) rest)
