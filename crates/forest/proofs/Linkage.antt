-- What a link finds of this crate's functions, in a world that holds its table: `answered` links the code of `judge` to say that it returns.
use mathlib.Core.Bool.{true}
use prog.Linked.{Tree, World, Holds, in_world}
use prog.LinkedThreads.{HasT}
use Rattle.forest.proofs.Notes.note.Symbol as Notes_note
use Rattle.forest.proofs.find.Symbol as find
use Rattle.forest.proofs.put_under.Symbol as put_under
use Rattle.forest.proofs.put_under_root.Symbol as put_under_root
use Rattle.forest.proofs.root.Symbol as root
use Rattle.forest.proofs.TheLink as link

abbrev pub table : Tree
table = link.table

abbrev pub Below : World → Type 0
Below = link.Below

pub linked_Notes_note : (W : World) → Holds W "forest" table → Below W → HasT (in_world W) true Notes_note.code
linked_Notes_note = link.linked-forest::Notes::note

pub linked_find : (W : World) → Holds W "forest" table → Below W → HasT (in_world W) true find.code
linked_find = link.linked-forest::find

pub linked_put_under : (W : World) → Holds W "forest" table → Below W → HasT (in_world W) true put_under.code
linked_put_under = link.linked-forest::put_under

pub linked_put_under_root : (W : World) → Holds W "forest" table → Below W → HasT (in_world W) true put_under_root.code
linked_put_under_root = link.linked-forest::put_under_root

pub linked_root : (W : World) → Holds W "forest" table → Below W → HasT (in_world W) true root.code
linked_root = link.linked-forest::root
