-- What a link finds of this crate's functions, in a world that holds its table: `answered` links the code of `judge` to say that it returns.
use mathlib.Core.Bool.{true}
use prog.Linked.{Tree, World, Holds, in_world}
use prog.LinkedThreads.{HasT}
use Rattle.scheme.proofs.highest.Symbol as highest
use Rattle.scheme.proofs.highest_in.Symbol as highest_in
use Rattle.scheme.proofs.is_under.Symbol as is_under
use Rattle.scheme.proofs.meet.Symbol as meet
use Rattle.scheme.proofs.meet_in.Symbol as meet_in
use Rattle.scheme.proofs.result.Symbol as result
use Rattle.scheme.proofs.stands_for.Symbol as stands_for
use Rattle.scheme.proofs.top.Symbol as top
use Rattle.scheme.proofs.words.Symbol as words
use Rattle.scheme.proofs.TheLink as link

abbrev pub table : Tree
table = link.table

abbrev pub Below : World → Type 0
Below = link.Below

pub linked_highest : (W : World) → Holds W "scheme" table → Below W → HasT (in_world W) true highest.code
linked_highest = link.linked-scheme::highest

pub linked_highest_in : (W : World) → Holds W "scheme" table → Below W → HasT (in_world W) true highest_in.code
linked_highest_in = link.linked-scheme::highest_in

pub linked_is_under : (W : World) → Holds W "scheme" table → Below W → HasT (in_world W) true is_under.code
linked_is_under = link.linked-scheme::is_under

pub linked_meet : (W : World) → Holds W "scheme" table → Below W → HasT (in_world W) true meet.code
linked_meet = link.linked-scheme::meet

pub linked_meet_in : (W : World) → Holds W "scheme" table → Below W → HasT (in_world W) true meet_in.code
linked_meet_in = link.linked-scheme::meet_in

pub linked_result : (W : World) → Holds W "scheme" table → Below W → HasT (in_world W) true result.code
linked_result = link.linked-scheme::result

pub linked_stands_for : (W : World) → Holds W "scheme" table → Below W → HasT (in_world W) true stands_for.code
linked_stands_for = link.linked-scheme::stands_for

pub linked_top : (W : World) → Holds W "scheme" table → Below W → HasT (in_world W) true top.code
linked_top = link.linked-scheme::top

pub linked_words : (W : World) → Holds W "scheme" table → Below W → HasT (in_world W) true words.code
linked_words = link.linked-scheme::words
