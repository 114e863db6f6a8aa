-- Lines of documents 01 and 02, computed: the number that the definitions give each.
use Prim.Native.Nat.{ℕ}
use Rattle.scheme.specs.Six.{six_table}
use Prim.Native.String.{String}
use mathlib.Core.List.{List, [], ◌∷◌, map}
use mathlib.Core.Path.{◌≡◌, refl}
use Rattle.model.specs.Lists.{bytes}
use Rattle.model.specs.Number.{number_of}
use Rattle.model.specs.Word.{capital, spells, word_of, qualifier_of, scheme_of, operation_of}
use Rattle.model.specs.Line.{floor, given, choose, exactly, int_line, any_line, arrow_line, param_line, lam_line, app_line, op_line, var_line, num_line, enc_line, type_line, leaf_line, term_line, line_of}
use Rattle.model.specs.Machine.{Machine, Change, fresh_machine, first_failing, type_refusal, param_refusal, term_refusal, settled, entered, added}

-- An add, with all that it rests on open to computing.
adding : Machine → String → Change
unfolding added line_of type_line leaf_line term_line int_line any_line arrow_line param_line lam_line app_line op_line var_line num_line enc_line given choose exactly number_of capital spells word_of qualifier_of floor scheme_of operation_of entered settled first_failing type_refusal param_refusal term_refusal
adding m text = added m (bytes text)

-- The numbers that the adds of lines in turn return.
returned : Machine → List String → List ℕ
returned m [] = []
returned m (text ∷ rest) = (adding m text).number ∷ returned (adding m text).machine rest

-- Lines in turn, refused ones among them, with the number that each add returns.
lines_in_turn : List (String × ℕ)
lines_in_turn =
    ("T,1,INT", 2)
    ∷ ("T,0,ARROW,PLAIN,0,PLAIN,0", 4)
    ∷ ("T,0,INT", 0)
    ∷ ("t,1,INT", 1)
    ∷ ("T,01,INT", 1)
    ∷ ("T,1,ARROW,AH,0,g63,0", 0)
    ∷ ("P,0,g64,0", 1)
    ∷ ("P,0,RAND,2", 4)
    ∷ ("P,0,RAND,0,g0", 1)
    ∷ ("P,0,RAND,0,AH,AH", 1)
    ∷ ("P,0,RAND,0,AH", 0)
    ∷ ("E,0,VAR,1", 5)
    ∷ ("E,0,ENC,PLAIN,1", 1)
    ∷ ("E,0,NUM,4294967296", 1)
    ∷ ("E,0,NUM,4294967295", 0)
    ∷ ("E,1,APP,0,0", 7)
    ∷ ("E,1,APP,0,1", 6)
    ∷ ("E,1,APP,0,65536", 1)
    ∷ ("E,1,LAM,0,0", 0)
    ∷ ("E,2,NUM,7", 0)
    ∷ ("E,3,LAM,0,2", 8)
    ∷ ("E,3,OP,ADD,0,2", 7)
    ∷ ("E,3,OP,ADD,1,2", 0)
    ∷ ("", 1)
    ∷ ("T,2,int", 0)
    ∷ ("T,3,aNy", 0)
    ∷ ("T,4,arrow,ah,0,G63,0", 1)
    ∷ ("T,4,Arrow,aH,0,g63,0", 0)
    ∷ ("p,1,rand,4,det", 1)
    ∷ ("P,1,rand,4,det", 0)
    ∷ ("e,4,num,7", 1)
    ∷ ("E,4,enc,plain,7", 1)
    ∷ ("E,4,enc,{and,7", 1)
    ∷ ("E,4,Enc,Rand,7", 0)
    ∷ ("E,5,num,7", 0)
    ∷ ("E,6,op,gt,4,5", 0)
    ∷ ("E,7,vaR,1", 0)
    ∷ ("E,8,App,6,7", 0)
    ∷ ("E,9,lam,1,8", 0)
    ∷ []

lines_are_answered : returned (fresh_machine six_table) (map (λ l. l.0) lines_in_turn) ≡ map (λ l. l.1) lines_in_turn
unfolding returned adding lines_in_turn
lines_are_answered = refl
