-- The starred programs as one list, each with what `place` prints of it.
-- Document 01, "Programs to try": "Starred ones (and A) are proved."; document 02, b) and f).
use Rattle.std.specs.Prelude.{ℕ, List, [], ◌∷◌, ◌++◌}
use Prim.Native.String.{String}
use Rattle.scheme.specs.Six.{six_table}
use Rattle.model.specs.Lists.{bytes}
use Rattle.model.specs.Text.{Prints}

-- The lines of a program, and the lines that are printed.
pub record Example : Type 0 where
  pub program : List String
  pub output : List String

-- "one a line": every line ends in a line feed.
abbrev pub text_of : List String → List ℕ
text_of [] = []
text_of (line ∷ lines) = bytes line ++ (10 ∷ text_of lines)

-- `place`, which keeps the built-in six, prints the output of the program.
abbrev pub PrintsOutput : Example → Type 0
PrintsOutput example = Prints six_table (text_of example.program) (text_of example.output)

infixr 60 ◌∷ᴬ◌
-- Every element has the property.
pub data All {A : Type 0} (P : A → Type 0) : List A → Type 0 where
  []ᴬ : All P []
  ◌∷ᴬ◌ : {x : A} {xs : List A} → P x → All P xs → All P (x ∷ xs)

-- "A, on `place`: .. prints in full"
abbrev pub program_A : Example
program_A =
    record {
      program = "T,0,ANY" ∷ "P,0,g0,0" ∷ "E,0,VAR,0" ∷ "E,1,VAR,0" ∷ "E,2,OP,ADD,0,1" ∷ "E,3,LAM,0,2" ∷ [];
      output = "OK,1,4" ∷ "G,0,AH" ∷ "P,0,AH,INT" ∷ "E,0,AH,INT" ∷ "E,1,AH,INT" ∷ "E,2,AH,INT" ∷ "E,3,PLAIN,ARROW" ∷ [];
    }

-- "Below, bodies are under LAMs of parameters x, y with type ANY and an unshared variable, unless said."

-- "* x + x, the sum times x: x FHE."
abbrev pub sum_times_x : Example
sum_times_x =
    record {
      program = "T,0,ANY" ∷ "P,0,g0,0" ∷ "E,0,VAR,0" ∷ "E,1,VAR,0" ∷ "E,2,OP,ADD,0,1" ∷ "E,3,VAR,0" ∷ "E,4,OP,MUL,2,3" ∷ "E,5,LAM,0,4" ∷ [];
      output =
          "OK,1,6"
          ∷ "G,0,FHE"
          ∷ "P,0,FHE,INT"
          ∷ "E,0,FHE,INT"
          ∷ "E,1,FHE,INT"
          ∷ "E,2,FHE,INT"
          ∷ "E,3,FHE,INT"
          ∷ "E,4,FHE,INT"
          ∷ "E,5,PLAIN,ARROW"
          ∷ [];
    }

-- "* x = x: DET."
abbrev pub x_equals_x : Example
x_equals_x =
    record {
      program = "T,0,ANY" ∷ "P,0,g0,0" ∷ "E,0,VAR,0" ∷ "E,1,VAR,0" ∷ "E,2,OP,EQ,0,1" ∷ "E,3,LAM,0,2" ∷ [];
      output = "OK,1,4" ∷ "G,0,DET" ∷ "P,0,DET,INT" ∷ "E,0,DET,INT" ∷ "E,1,DET,INT" ∷ "E,2,PLAIN,INT" ∷ "E,3,PLAIN,ARROW" ∷ [];
    }

-- "* x < x: OP."
abbrev pub x_less_than_x : Example
x_less_than_x =
    record {
      program = "T,0,ANY" ∷ "P,0,g0,0" ∷ "E,0,VAR,0" ∷ "E,1,VAR,0" ∷ "E,2,OP,LT,0,1" ∷ "E,3,LAM,0,2" ∷ [];
      output = "OK,1,4" ∷ "G,0,OP" ∷ "P,0,OP,INT" ∷ "E,0,OP,INT" ∷ "E,1,OP,INT" ∷ "E,2,PLAIN,INT" ∷ "E,3,PLAIN,ARROW" ∷ [];
    }

-- "Starred case x + NUM becomes x AH" (document 02, b): the NUM is AH as well, and the output is that of x + x.
abbrev pub x_plus_number : Example
x_plus_number =
    record {
      program = "T,0,ANY" ∷ "P,0,g0,0" ∷ "E,0,VAR,0" ∷ "E,1,NUM,7" ∷ "E,2,OP,ADD,0,1" ∷ "E,3,LAM,0,2" ∷ [];
      output = program_A.output;
    }

-- "* body x: RAND, ANY."
abbrev pub body_x : Example
body_x =
    record {
      program = "T,0,ANY" ∷ "P,0,g0,0" ∷ "E,0,VAR,0" ∷ "E,1,LAM,0,0" ∷ [];
      output = "OK,1,2" ∷ "G,0,RAND" ∷ "P,0,RAND,ANY" ∷ "E,0,RAND,ANY" ∷ "E,1,PLAIN,ARROW" ∷ [];
    }

-- "* x declared RAND, x + x: 23 at the ADD."
abbrev pub sum_of_rand : Example
sum_of_rand =
    record {
      program = "T,0,ANY" ∷ "P,0,RAND,0" ∷ "E,0,VAR,0" ∷ "E,1,VAR,0" ∷ "E,2,OP,ADD,0,1" ∷ "E,3,LAM,0,2" ∷ [];
      output = "NO,23,2" ∷ [];
    }

-- "* x AH, y MH, x + y: 22 at the ADD."
abbrev pub ah_plus_mh : Example
ah_plus_mh =
    record {
      program =
          "T,0,ANY"
          ∷ "T,1,ANY"
          ∷ "P,0,AH,0"
          ∷ "P,1,MH,1"
          ∷ "E,0,VAR,0"
          ∷ "E,1,VAR,1"
          ∷ "E,2,OP,ADD,0,1"
          ∷ "E,3,LAM,1,2"
          ∷ "E,4,LAM,0,3"
          ∷ [];
      output = "NO,22,2" ∷ [];
    }

-- "* x applied to x: 21 at the APP."
abbrev pub x_applied_to_x : Example
x_applied_to_x =
    record {
      program = "T,0,ANY" ∷ "P,0,g0,0" ∷ "E,0,VAR,0" ∷ "E,1,VAR,0" ∷ "E,2,APP,0,1" ∷ "E,3,LAM,0,2" ∷ [];
      output = "NO,21,2" ∷ [];
    }

-- "* NUM applied to NUM: 21." It "remains 21" (document 02, b).
abbrev pub number_applied_to_number : Example
number_applied_to_number =
    record {
      program = "E,0,NUM,1" ∷ "E,1,NUM,2" ∷ "E,2,APP,0,1" ∷ [];
      output = "NO,21,2" ∷ [];
    }

-- "* (x < y) + (x < y): x and y OP, sum PLAIN."
abbrev pub sum_of_comparisons : Example
sum_of_comparisons =
    record {
      program =
          "T,0,ANY"
          ∷ "T,1,ANY"
          ∷ "P,0,g0,0"
          ∷ "P,1,g1,1"
          ∷ "E,0,VAR,0"
          ∷ "E,1,VAR,1"
          ∷ "E,2,OP,LT,0,1"
          ∷ "E,3,VAR,0"
          ∷ "E,4,VAR,1"
          ∷ "E,5,OP,LT,3,4"
          ∷ "E,6,OP,ADD,2,5"
          ∷ "E,7,LAM,1,6"
          ∷ "E,8,LAM,0,7"
          ∷ [];
      output =
          "OK,2,9"
          ∷ "G,0,OP"
          ∷ "G,1,OP"
          ∷ "P,0,OP,INT"
          ∷ "P,1,OP,INT"
          ∷ "E,0,OP,INT"
          ∷ "E,1,OP,INT"
          ∷ "E,2,PLAIN,INT"
          ∷ "E,3,OP,INT"
          ∷ "E,4,OP,INT"
          ∷ "E,5,PLAIN,INT"
          ∷ "E,6,PLAIN,INT"
          ∷ "E,7,PLAIN,ARROW"
          ∷ "E,8,PLAIN,ARROW"
          ∷ [];
    }

-- "Case x applied to NUM becomes x PLAIN, ARROW." (document 02, f): the NUM and the result, which nothing bounds, are RAND.
abbrev pub x_applied_to_number : Example
x_applied_to_number =
    record {
      program = "T,0,ANY" ∷ "P,0,g0,0" ∷ "E,0,VAR,0" ∷ "E,1,NUM,3" ∷ "E,2,APP,0,1" ∷ "E,3,LAM,0,2" ∷ [];
      output = "OK,1,4" ∷ "G,0,PLAIN" ∷ "P,0,PLAIN,ARROW" ∷ "E,0,PLAIN,ARROW" ∷ "E,1,RAND,INT" ∷ "E,2,RAND,ANY" ∷ "E,3,PLAIN,ARROW" ∷ [];
    }

-- "The starred cases form one list, with one theorem over it."
abbrev pub starred : List Example
starred =
    program_A
    ∷ sum_times_x
    ∷ x_equals_x
    ∷ x_less_than_x
    ∷ x_plus_number
    ∷ body_x
    ∷ sum_of_rand
    ∷ ah_plus_mh
    ∷ x_applied_to_x
    ∷ number_applied_to_number
    ∷ sum_of_comparisons
    ∷ x_applied_to_number
    ∷ []
