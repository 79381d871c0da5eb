-- Goals over words of 8 bits, and their clauses, worked out by another program from the tables of gates.
use Rattle.std.specs.Prelude.{[], ◌∷◌}
use Rattle.term_core_spec.specs.declared.Width.TheVariants.{W8, W16}
use Rattle.term_core_spec.specs.Term.{Term, constant, equal, less, add, subtract, shift_left, shift_right_signed, load, zero_extend, byte, join_two}
use Rattle.clause_check_spec.specs.Clause.{Cnf}
use Rattle.example_laws.specs.Goals.{is, isnt, x, y, a, b, m}

-- x has variables 2 to 9 and y 10 to 17; 18 to 25 are the carries of x and the complement of y and 1
abbrev pub unsigned_less : Term
unsigned_less = less x y

abbrev pub unsigned_less_clauses : Cnf
unsigned_less_clauses = record {
  variables = 25;
  clauses = (is 1 ∷ []) ∷ (isnt 2 ∷ is 10 ∷ is 18 ∷ []) ∷ (isnt 2 ∷ isnt 1 ∷ is 18 ∷ []) ∷ (is 10 ∷ isnt 1 ∷ is 18 ∷ []) ∷ (is 2 ∷ isnt 10 ∷ isnt 18 ∷ [])
      ∷ (is 2 ∷ is 1 ∷ isnt 18 ∷ []) ∷ (isnt 10 ∷ is 1 ∷ isnt 18 ∷ []) ∷ (isnt 3 ∷ is 11 ∷ is 19 ∷ []) ∷ (isnt 3 ∷ isnt 18 ∷ is 19 ∷ [])
      ∷ (is 11 ∷ isnt 18 ∷ is 19 ∷ []) ∷ (is 3 ∷ isnt 11 ∷ isnt 19 ∷ []) ∷ (is 3 ∷ is 18 ∷ isnt 19 ∷ []) ∷ (isnt 11 ∷ is 18 ∷ isnt 19 ∷ [])
      ∷ (isnt 4 ∷ is 12 ∷ is 20 ∷ []) ∷ (isnt 4 ∷ isnt 19 ∷ is 20 ∷ []) ∷ (is 12 ∷ isnt 19 ∷ is 20 ∷ []) ∷ (is 4 ∷ isnt 12 ∷ isnt 20 ∷ [])
      ∷ (is 4 ∷ is 19 ∷ isnt 20 ∷ []) ∷ (isnt 12 ∷ is 19 ∷ isnt 20 ∷ []) ∷ (isnt 5 ∷ is 13 ∷ is 21 ∷ []) ∷ (isnt 5 ∷ isnt 20 ∷ is 21 ∷ [])
      ∷ (is 13 ∷ isnt 20 ∷ is 21 ∷ []) ∷ (is 5 ∷ isnt 13 ∷ isnt 21 ∷ []) ∷ (is 5 ∷ is 20 ∷ isnt 21 ∷ []) ∷ (isnt 13 ∷ is 20 ∷ isnt 21 ∷ [])
      ∷ (isnt 6 ∷ is 14 ∷ is 22 ∷ []) ∷ (isnt 6 ∷ isnt 21 ∷ is 22 ∷ []) ∷ (is 14 ∷ isnt 21 ∷ is 22 ∷ []) ∷ (is 6 ∷ isnt 14 ∷ isnt 22 ∷ [])
      ∷ (is 6 ∷ is 21 ∷ isnt 22 ∷ []) ∷ (isnt 14 ∷ is 21 ∷ isnt 22 ∷ []) ∷ (isnt 7 ∷ is 15 ∷ is 23 ∷ []) ∷ (isnt 7 ∷ isnt 22 ∷ is 23 ∷ [])
      ∷ (is 15 ∷ isnt 22 ∷ is 23 ∷ []) ∷ (is 7 ∷ isnt 15 ∷ isnt 23 ∷ []) ∷ (is 7 ∷ is 22 ∷ isnt 23 ∷ []) ∷ (isnt 15 ∷ is 22 ∷ isnt 23 ∷ [])
      ∷ (isnt 8 ∷ is 16 ∷ is 24 ∷ []) ∷ (isnt 8 ∷ isnt 23 ∷ is 24 ∷ []) ∷ (is 16 ∷ isnt 23 ∷ is 24 ∷ []) ∷ (is 8 ∷ isnt 16 ∷ isnt 24 ∷ [])
      ∷ (is 8 ∷ is 23 ∷ isnt 24 ∷ []) ∷ (isnt 16 ∷ is 23 ∷ isnt 24 ∷ []) ∷ (isnt 9 ∷ is 17 ∷ is 25 ∷ []) ∷ (isnt 9 ∷ isnt 24 ∷ is 25 ∷ [])
      ∷ (is 17 ∷ isnt 24 ∷ is 25 ∷ []) ∷ (is 9 ∷ isnt 17 ∷ isnt 25 ∷ []) ∷ (is 9 ∷ is 24 ∷ isnt 25 ∷ []) ∷ (isnt 17 ∷ is 24 ∷ isnt 25 ∷ []) ∷ (is 25 ∷ [])
      ∷ [];
}

-- the exclusive ors are 18 to 25, the fold of their negations 26 to 32
abbrev pub equal_words : Term
equal_words = equal x y

abbrev pub equal_words_clauses : Cnf
equal_words_clauses = record {
  variables = 32;
  clauses = (is 1 ∷ []) ∷ (isnt 18 ∷ is 2 ∷ is 10 ∷ []) ∷ (isnt 18 ∷ isnt 2 ∷ isnt 10 ∷ []) ∷ (is 18 ∷ isnt 2 ∷ is 10 ∷ []) ∷ (is 18 ∷ is 2 ∷ isnt 10 ∷ [])
      ∷ (isnt 19 ∷ is 3 ∷ is 11 ∷ []) ∷ (isnt 19 ∷ isnt 3 ∷ isnt 11 ∷ []) ∷ (is 19 ∷ isnt 3 ∷ is 11 ∷ []) ∷ (is 19 ∷ is 3 ∷ isnt 11 ∷ [])
      ∷ (isnt 20 ∷ is 4 ∷ is 12 ∷ []) ∷ (isnt 20 ∷ isnt 4 ∷ isnt 12 ∷ []) ∷ (is 20 ∷ isnt 4 ∷ is 12 ∷ []) ∷ (is 20 ∷ is 4 ∷ isnt 12 ∷ [])
      ∷ (isnt 21 ∷ is 5 ∷ is 13 ∷ []) ∷ (isnt 21 ∷ isnt 5 ∷ isnt 13 ∷ []) ∷ (is 21 ∷ isnt 5 ∷ is 13 ∷ []) ∷ (is 21 ∷ is 5 ∷ isnt 13 ∷ [])
      ∷ (isnt 22 ∷ is 6 ∷ is 14 ∷ []) ∷ (isnt 22 ∷ isnt 6 ∷ isnt 14 ∷ []) ∷ (is 22 ∷ isnt 6 ∷ is 14 ∷ []) ∷ (is 22 ∷ is 6 ∷ isnt 14 ∷ [])
      ∷ (isnt 23 ∷ is 7 ∷ is 15 ∷ []) ∷ (isnt 23 ∷ isnt 7 ∷ isnt 15 ∷ []) ∷ (is 23 ∷ isnt 7 ∷ is 15 ∷ []) ∷ (is 23 ∷ is 7 ∷ isnt 15 ∷ [])
      ∷ (isnt 24 ∷ is 8 ∷ is 16 ∷ []) ∷ (isnt 24 ∷ isnt 8 ∷ isnt 16 ∷ []) ∷ (is 24 ∷ isnt 8 ∷ is 16 ∷ []) ∷ (is 24 ∷ is 8 ∷ isnt 16 ∷ [])
      ∷ (isnt 25 ∷ is 9 ∷ is 17 ∷ []) ∷ (isnt 25 ∷ isnt 9 ∷ isnt 17 ∷ []) ∷ (is 25 ∷ isnt 9 ∷ is 17 ∷ []) ∷ (is 25 ∷ is 9 ∷ isnt 17 ∷ [])
      ∷ (isnt 26 ∷ isnt 18 ∷ []) ∷ (isnt 26 ∷ isnt 19 ∷ []) ∷ (is 26 ∷ is 18 ∷ is 19 ∷ []) ∷ (isnt 27 ∷ is 26 ∷ []) ∷ (isnt 27 ∷ isnt 20 ∷ [])
      ∷ (is 27 ∷ isnt 26 ∷ is 20 ∷ []) ∷ (isnt 28 ∷ is 27 ∷ []) ∷ (isnt 28 ∷ isnt 21 ∷ []) ∷ (is 28 ∷ isnt 27 ∷ is 21 ∷ []) ∷ (isnt 29 ∷ is 28 ∷ [])
      ∷ (isnt 29 ∷ isnt 22 ∷ []) ∷ (is 29 ∷ isnt 28 ∷ is 22 ∷ []) ∷ (isnt 30 ∷ is 29 ∷ []) ∷ (isnt 30 ∷ isnt 23 ∷ []) ∷ (is 30 ∷ isnt 29 ∷ is 23 ∷ [])
      ∷ (isnt 31 ∷ is 30 ∷ []) ∷ (isnt 31 ∷ isnt 24 ∷ []) ∷ (is 31 ∷ isnt 30 ∷ is 24 ∷ []) ∷ (isnt 32 ∷ is 31 ∷ []) ∷ (isnt 32 ∷ isnt 25 ∷ [])
      ∷ (is 32 ∷ isnt 31 ∷ is 25 ∷ []) ∷ (isnt 32 ∷ []) ∷ [];
}

-- an adder's exclusive or, sum and carry for each bit, from 10 on; the test against y, 34 to 41, follows
abbrev pub sum_with_three : Term
sum_with_three = equal (add x (constant W8 3)) y

abbrev pub sum_with_three_clauses : Cnf
sum_with_three_clauses = record {
  variables = 56;
  clauses = (is 1 ∷ []) ∷ (isnt 10 ∷ is 2 ∷ is 1 ∷ []) ∷ (isnt 10 ∷ isnt 2 ∷ isnt 1 ∷ []) ∷ (is 10 ∷ isnt 2 ∷ is 1 ∷ []) ∷ (is 10 ∷ is 2 ∷ isnt 1 ∷ [])
      ∷ (isnt 11 ∷ is 10 ∷ isnt 1 ∷ []) ∷ (isnt 11 ∷ isnt 10 ∷ is 1 ∷ []) ∷ (is 11 ∷ isnt 10 ∷ isnt 1 ∷ []) ∷ (is 11 ∷ is 10 ∷ is 1 ∷ [])
      ∷ (isnt 2 ∷ isnt 1 ∷ is 12 ∷ []) ∷ (isnt 2 ∷ is 1 ∷ is 12 ∷ []) ∷ (isnt 1 ∷ is 1 ∷ is 12 ∷ []) ∷ (is 2 ∷ is 1 ∷ isnt 12 ∷ [])
      ∷ (is 2 ∷ isnt 1 ∷ isnt 12 ∷ []) ∷ (is 1 ∷ isnt 1 ∷ isnt 12 ∷ []) ∷ (isnt 13 ∷ is 3 ∷ is 1 ∷ []) ∷ (isnt 13 ∷ isnt 3 ∷ isnt 1 ∷ [])
      ∷ (is 13 ∷ isnt 3 ∷ is 1 ∷ []) ∷ (is 13 ∷ is 3 ∷ isnt 1 ∷ []) ∷ (isnt 14 ∷ is 13 ∷ is 12 ∷ []) ∷ (isnt 14 ∷ isnt 13 ∷ isnt 12 ∷ [])
      ∷ (is 14 ∷ isnt 13 ∷ is 12 ∷ []) ∷ (is 14 ∷ is 13 ∷ isnt 12 ∷ []) ∷ (isnt 3 ∷ isnt 1 ∷ is 15 ∷ []) ∷ (isnt 3 ∷ isnt 12 ∷ is 15 ∷ [])
      ∷ (isnt 1 ∷ isnt 12 ∷ is 15 ∷ []) ∷ (is 3 ∷ is 1 ∷ isnt 15 ∷ []) ∷ (is 3 ∷ is 12 ∷ isnt 15 ∷ []) ∷ (is 1 ∷ is 12 ∷ isnt 15 ∷ [])
      ∷ (isnt 16 ∷ is 4 ∷ isnt 1 ∷ []) ∷ (isnt 16 ∷ isnt 4 ∷ is 1 ∷ []) ∷ (is 16 ∷ isnt 4 ∷ isnt 1 ∷ []) ∷ (is 16 ∷ is 4 ∷ is 1 ∷ [])
      ∷ (isnt 17 ∷ is 16 ∷ is 15 ∷ []) ∷ (isnt 17 ∷ isnt 16 ∷ isnt 15 ∷ []) ∷ (is 17 ∷ isnt 16 ∷ is 15 ∷ []) ∷ (is 17 ∷ is 16 ∷ isnt 15 ∷ [])
      ∷ (isnt 4 ∷ is 1 ∷ is 18 ∷ []) ∷ (isnt 4 ∷ isnt 15 ∷ is 18 ∷ []) ∷ (is 1 ∷ isnt 15 ∷ is 18 ∷ []) ∷ (is 4 ∷ isnt 1 ∷ isnt 18 ∷ [])
      ∷ (is 4 ∷ is 15 ∷ isnt 18 ∷ []) ∷ (isnt 1 ∷ is 15 ∷ isnt 18 ∷ []) ∷ (isnt 19 ∷ is 5 ∷ isnt 1 ∷ []) ∷ (isnt 19 ∷ isnt 5 ∷ is 1 ∷ [])
      ∷ (is 19 ∷ isnt 5 ∷ isnt 1 ∷ []) ∷ (is 19 ∷ is 5 ∷ is 1 ∷ []) ∷ (isnt 20 ∷ is 19 ∷ is 18 ∷ []) ∷ (isnt 20 ∷ isnt 19 ∷ isnt 18 ∷ [])
      ∷ (is 20 ∷ isnt 19 ∷ is 18 ∷ []) ∷ (is 20 ∷ is 19 ∷ isnt 18 ∷ []) ∷ (isnt 5 ∷ is 1 ∷ is 21 ∷ []) ∷ (isnt 5 ∷ isnt 18 ∷ is 21 ∷ [])
      ∷ (is 1 ∷ isnt 18 ∷ is 21 ∷ []) ∷ (is 5 ∷ isnt 1 ∷ isnt 21 ∷ []) ∷ (is 5 ∷ is 18 ∷ isnt 21 ∷ []) ∷ (isnt 1 ∷ is 18 ∷ isnt 21 ∷ [])
      ∷ (isnt 22 ∷ is 6 ∷ isnt 1 ∷ []) ∷ (isnt 22 ∷ isnt 6 ∷ is 1 ∷ []) ∷ (is 22 ∷ isnt 6 ∷ isnt 1 ∷ []) ∷ (is 22 ∷ is 6 ∷ is 1 ∷ [])
      ∷ (isnt 23 ∷ is 22 ∷ is 21 ∷ []) ∷ (isnt 23 ∷ isnt 22 ∷ isnt 21 ∷ []) ∷ (is 23 ∷ isnt 22 ∷ is 21 ∷ []) ∷ (is 23 ∷ is 22 ∷ isnt 21 ∷ [])
      ∷ (isnt 6 ∷ is 1 ∷ is 24 ∷ []) ∷ (isnt 6 ∷ isnt 21 ∷ is 24 ∷ []) ∷ (is 1 ∷ isnt 21 ∷ is 24 ∷ []) ∷ (is 6 ∷ isnt 1 ∷ isnt 24 ∷ [])
      ∷ (is 6 ∷ is 21 ∷ isnt 24 ∷ []) ∷ (isnt 1 ∷ is 21 ∷ isnt 24 ∷ []) ∷ (isnt 25 ∷ is 7 ∷ isnt 1 ∷ []) ∷ (isnt 25 ∷ isnt 7 ∷ is 1 ∷ [])
      ∷ (is 25 ∷ isnt 7 ∷ isnt 1 ∷ []) ∷ (is 25 ∷ is 7 ∷ is 1 ∷ []) ∷ (isnt 26 ∷ is 25 ∷ is 24 ∷ []) ∷ (isnt 26 ∷ isnt 25 ∷ isnt 24 ∷ [])
      ∷ (is 26 ∷ isnt 25 ∷ is 24 ∷ []) ∷ (is 26 ∷ is 25 ∷ isnt 24 ∷ []) ∷ (isnt 7 ∷ is 1 ∷ is 27 ∷ []) ∷ (isnt 7 ∷ isnt 24 ∷ is 27 ∷ [])
      ∷ (is 1 ∷ isnt 24 ∷ is 27 ∷ []) ∷ (is 7 ∷ isnt 1 ∷ isnt 27 ∷ []) ∷ (is 7 ∷ is 24 ∷ isnt 27 ∷ []) ∷ (isnt 1 ∷ is 24 ∷ isnt 27 ∷ [])
      ∷ (isnt 28 ∷ is 8 ∷ isnt 1 ∷ []) ∷ (isnt 28 ∷ isnt 8 ∷ is 1 ∷ []) ∷ (is 28 ∷ isnt 8 ∷ isnt 1 ∷ []) ∷ (is 28 ∷ is 8 ∷ is 1 ∷ [])
      ∷ (isnt 29 ∷ is 28 ∷ is 27 ∷ []) ∷ (isnt 29 ∷ isnt 28 ∷ isnt 27 ∷ []) ∷ (is 29 ∷ isnt 28 ∷ is 27 ∷ []) ∷ (is 29 ∷ is 28 ∷ isnt 27 ∷ [])
      ∷ (isnt 8 ∷ is 1 ∷ is 30 ∷ []) ∷ (isnt 8 ∷ isnt 27 ∷ is 30 ∷ []) ∷ (is 1 ∷ isnt 27 ∷ is 30 ∷ []) ∷ (is 8 ∷ isnt 1 ∷ isnt 30 ∷ [])
      ∷ (is 8 ∷ is 27 ∷ isnt 30 ∷ []) ∷ (isnt 1 ∷ is 27 ∷ isnt 30 ∷ []) ∷ (isnt 31 ∷ is 9 ∷ isnt 1 ∷ []) ∷ (isnt 31 ∷ isnt 9 ∷ is 1 ∷ [])
      ∷ (is 31 ∷ isnt 9 ∷ isnt 1 ∷ []) ∷ (is 31 ∷ is 9 ∷ is 1 ∷ []) ∷ (isnt 32 ∷ is 31 ∷ is 30 ∷ []) ∷ (isnt 32 ∷ isnt 31 ∷ isnt 30 ∷ [])
      ∷ (is 32 ∷ isnt 31 ∷ is 30 ∷ []) ∷ (is 32 ∷ is 31 ∷ isnt 30 ∷ []) ∷ (isnt 9 ∷ is 1 ∷ is 33 ∷ []) ∷ (isnt 9 ∷ isnt 30 ∷ is 33 ∷ [])
      ∷ (is 1 ∷ isnt 30 ∷ is 33 ∷ []) ∷ (is 9 ∷ isnt 1 ∷ isnt 33 ∷ []) ∷ (is 9 ∷ is 30 ∷ isnt 33 ∷ []) ∷ (isnt 1 ∷ is 30 ∷ isnt 33 ∷ [])
      ∷ (isnt 42 ∷ is 11 ∷ is 34 ∷ []) ∷ (isnt 42 ∷ isnt 11 ∷ isnt 34 ∷ []) ∷ (is 42 ∷ isnt 11 ∷ is 34 ∷ []) ∷ (is 42 ∷ is 11 ∷ isnt 34 ∷ [])
      ∷ (isnt 43 ∷ is 14 ∷ is 35 ∷ []) ∷ (isnt 43 ∷ isnt 14 ∷ isnt 35 ∷ []) ∷ (is 43 ∷ isnt 14 ∷ is 35 ∷ []) ∷ (is 43 ∷ is 14 ∷ isnt 35 ∷ [])
      ∷ (isnt 44 ∷ is 17 ∷ is 36 ∷ []) ∷ (isnt 44 ∷ isnt 17 ∷ isnt 36 ∷ []) ∷ (is 44 ∷ isnt 17 ∷ is 36 ∷ []) ∷ (is 44 ∷ is 17 ∷ isnt 36 ∷ [])
      ∷ (isnt 45 ∷ is 20 ∷ is 37 ∷ []) ∷ (isnt 45 ∷ isnt 20 ∷ isnt 37 ∷ []) ∷ (is 45 ∷ isnt 20 ∷ is 37 ∷ []) ∷ (is 45 ∷ is 20 ∷ isnt 37 ∷ [])
      ∷ (isnt 46 ∷ is 23 ∷ is 38 ∷ []) ∷ (isnt 46 ∷ isnt 23 ∷ isnt 38 ∷ []) ∷ (is 46 ∷ isnt 23 ∷ is 38 ∷ []) ∷ (is 46 ∷ is 23 ∷ isnt 38 ∷ [])
      ∷ (isnt 47 ∷ is 26 ∷ is 39 ∷ []) ∷ (isnt 47 ∷ isnt 26 ∷ isnt 39 ∷ []) ∷ (is 47 ∷ isnt 26 ∷ is 39 ∷ []) ∷ (is 47 ∷ is 26 ∷ isnt 39 ∷ [])
      ∷ (isnt 48 ∷ is 29 ∷ is 40 ∷ []) ∷ (isnt 48 ∷ isnt 29 ∷ isnt 40 ∷ []) ∷ (is 48 ∷ isnt 29 ∷ is 40 ∷ []) ∷ (is 48 ∷ is 29 ∷ isnt 40 ∷ [])
      ∷ (isnt 49 ∷ is 32 ∷ is 41 ∷ []) ∷ (isnt 49 ∷ isnt 32 ∷ isnt 41 ∷ []) ∷ (is 49 ∷ isnt 32 ∷ is 41 ∷ []) ∷ (is 49 ∷ is 32 ∷ isnt 41 ∷ [])
      ∷ (isnt 50 ∷ isnt 42 ∷ []) ∷ (isnt 50 ∷ isnt 43 ∷ []) ∷ (is 50 ∷ is 42 ∷ is 43 ∷ []) ∷ (isnt 51 ∷ is 50 ∷ []) ∷ (isnt 51 ∷ isnt 44 ∷ [])
      ∷ (is 51 ∷ isnt 50 ∷ is 44 ∷ []) ∷ (isnt 52 ∷ is 51 ∷ []) ∷ (isnt 52 ∷ isnt 45 ∷ []) ∷ (is 52 ∷ isnt 51 ∷ is 45 ∷ []) ∷ (isnt 53 ∷ is 52 ∷ [])
      ∷ (isnt 53 ∷ isnt 46 ∷ []) ∷ (is 53 ∷ isnt 52 ∷ is 46 ∷ []) ∷ (isnt 54 ∷ is 53 ∷ []) ∷ (isnt 54 ∷ isnt 47 ∷ []) ∷ (is 54 ∷ isnt 53 ∷ is 47 ∷ [])
      ∷ (isnt 55 ∷ is 54 ∷ []) ∷ (isnt 55 ∷ isnt 48 ∷ []) ∷ (is 55 ∷ isnt 54 ∷ is 48 ∷ []) ∷ (isnt 56 ∷ is 55 ∷ []) ∷ (isnt 56 ∷ isnt 49 ∷ [])
      ∷ (is 56 ∷ isnt 55 ∷ is 49 ∷ []) ∷ (isnt 56 ∷ []) ∷ [];
}

-- as the sum with y negated and a first carry
abbrev pub difference : Term
difference = equal (subtract x y) (constant W8 3)

abbrev pub difference_clauses : Cnf
difference_clauses = record {
  variables = 56;
  clauses = (is 1 ∷ []) ∷ (isnt 18 ∷ is 2 ∷ isnt 10 ∷ []) ∷ (isnt 18 ∷ isnt 2 ∷ is 10 ∷ []) ∷ (is 18 ∷ isnt 2 ∷ isnt 10 ∷ []) ∷ (is 18 ∷ is 2 ∷ is 10 ∷ [])
      ∷ (isnt 19 ∷ is 18 ∷ is 1 ∷ []) ∷ (isnt 19 ∷ isnt 18 ∷ isnt 1 ∷ []) ∷ (is 19 ∷ isnt 18 ∷ is 1 ∷ []) ∷ (is 19 ∷ is 18 ∷ isnt 1 ∷ [])
      ∷ (isnt 2 ∷ is 10 ∷ is 20 ∷ []) ∷ (isnt 2 ∷ isnt 1 ∷ is 20 ∷ []) ∷ (is 10 ∷ isnt 1 ∷ is 20 ∷ []) ∷ (is 2 ∷ isnt 10 ∷ isnt 20 ∷ [])
      ∷ (is 2 ∷ is 1 ∷ isnt 20 ∷ []) ∷ (isnt 10 ∷ is 1 ∷ isnt 20 ∷ []) ∷ (isnt 21 ∷ is 3 ∷ isnt 11 ∷ []) ∷ (isnt 21 ∷ isnt 3 ∷ is 11 ∷ [])
      ∷ (is 21 ∷ isnt 3 ∷ isnt 11 ∷ []) ∷ (is 21 ∷ is 3 ∷ is 11 ∷ []) ∷ (isnt 22 ∷ is 21 ∷ is 20 ∷ []) ∷ (isnt 22 ∷ isnt 21 ∷ isnt 20 ∷ [])
      ∷ (is 22 ∷ isnt 21 ∷ is 20 ∷ []) ∷ (is 22 ∷ is 21 ∷ isnt 20 ∷ []) ∷ (isnt 3 ∷ is 11 ∷ is 23 ∷ []) ∷ (isnt 3 ∷ isnt 20 ∷ is 23 ∷ [])
      ∷ (is 11 ∷ isnt 20 ∷ is 23 ∷ []) ∷ (is 3 ∷ isnt 11 ∷ isnt 23 ∷ []) ∷ (is 3 ∷ is 20 ∷ isnt 23 ∷ []) ∷ (isnt 11 ∷ is 20 ∷ isnt 23 ∷ [])
      ∷ (isnt 24 ∷ is 4 ∷ isnt 12 ∷ []) ∷ (isnt 24 ∷ isnt 4 ∷ is 12 ∷ []) ∷ (is 24 ∷ isnt 4 ∷ isnt 12 ∷ []) ∷ (is 24 ∷ is 4 ∷ is 12 ∷ [])
      ∷ (isnt 25 ∷ is 24 ∷ is 23 ∷ []) ∷ (isnt 25 ∷ isnt 24 ∷ isnt 23 ∷ []) ∷ (is 25 ∷ isnt 24 ∷ is 23 ∷ []) ∷ (is 25 ∷ is 24 ∷ isnt 23 ∷ [])
      ∷ (isnt 4 ∷ is 12 ∷ is 26 ∷ []) ∷ (isnt 4 ∷ isnt 23 ∷ is 26 ∷ []) ∷ (is 12 ∷ isnt 23 ∷ is 26 ∷ []) ∷ (is 4 ∷ isnt 12 ∷ isnt 26 ∷ [])
      ∷ (is 4 ∷ is 23 ∷ isnt 26 ∷ []) ∷ (isnt 12 ∷ is 23 ∷ isnt 26 ∷ []) ∷ (isnt 27 ∷ is 5 ∷ isnt 13 ∷ []) ∷ (isnt 27 ∷ isnt 5 ∷ is 13 ∷ [])
      ∷ (is 27 ∷ isnt 5 ∷ isnt 13 ∷ []) ∷ (is 27 ∷ is 5 ∷ is 13 ∷ []) ∷ (isnt 28 ∷ is 27 ∷ is 26 ∷ []) ∷ (isnt 28 ∷ isnt 27 ∷ isnt 26 ∷ [])
      ∷ (is 28 ∷ isnt 27 ∷ is 26 ∷ []) ∷ (is 28 ∷ is 27 ∷ isnt 26 ∷ []) ∷ (isnt 5 ∷ is 13 ∷ is 29 ∷ []) ∷ (isnt 5 ∷ isnt 26 ∷ is 29 ∷ [])
      ∷ (is 13 ∷ isnt 26 ∷ is 29 ∷ []) ∷ (is 5 ∷ isnt 13 ∷ isnt 29 ∷ []) ∷ (is 5 ∷ is 26 ∷ isnt 29 ∷ []) ∷ (isnt 13 ∷ is 26 ∷ isnt 29 ∷ [])
      ∷ (isnt 30 ∷ is 6 ∷ isnt 14 ∷ []) ∷ (isnt 30 ∷ isnt 6 ∷ is 14 ∷ []) ∷ (is 30 ∷ isnt 6 ∷ isnt 14 ∷ []) ∷ (is 30 ∷ is 6 ∷ is 14 ∷ [])
      ∷ (isnt 31 ∷ is 30 ∷ is 29 ∷ []) ∷ (isnt 31 ∷ isnt 30 ∷ isnt 29 ∷ []) ∷ (is 31 ∷ isnt 30 ∷ is 29 ∷ []) ∷ (is 31 ∷ is 30 ∷ isnt 29 ∷ [])
      ∷ (isnt 6 ∷ is 14 ∷ is 32 ∷ []) ∷ (isnt 6 ∷ isnt 29 ∷ is 32 ∷ []) ∷ (is 14 ∷ isnt 29 ∷ is 32 ∷ []) ∷ (is 6 ∷ isnt 14 ∷ isnt 32 ∷ [])
      ∷ (is 6 ∷ is 29 ∷ isnt 32 ∷ []) ∷ (isnt 14 ∷ is 29 ∷ isnt 32 ∷ []) ∷ (isnt 33 ∷ is 7 ∷ isnt 15 ∷ []) ∷ (isnt 33 ∷ isnt 7 ∷ is 15 ∷ [])
      ∷ (is 33 ∷ isnt 7 ∷ isnt 15 ∷ []) ∷ (is 33 ∷ is 7 ∷ is 15 ∷ []) ∷ (isnt 34 ∷ is 33 ∷ is 32 ∷ []) ∷ (isnt 34 ∷ isnt 33 ∷ isnt 32 ∷ [])
      ∷ (is 34 ∷ isnt 33 ∷ is 32 ∷ []) ∷ (is 34 ∷ is 33 ∷ isnt 32 ∷ []) ∷ (isnt 7 ∷ is 15 ∷ is 35 ∷ []) ∷ (isnt 7 ∷ isnt 32 ∷ is 35 ∷ [])
      ∷ (is 15 ∷ isnt 32 ∷ is 35 ∷ []) ∷ (is 7 ∷ isnt 15 ∷ isnt 35 ∷ []) ∷ (is 7 ∷ is 32 ∷ isnt 35 ∷ []) ∷ (isnt 15 ∷ is 32 ∷ isnt 35 ∷ [])
      ∷ (isnt 36 ∷ is 8 ∷ isnt 16 ∷ []) ∷ (isnt 36 ∷ isnt 8 ∷ is 16 ∷ []) ∷ (is 36 ∷ isnt 8 ∷ isnt 16 ∷ []) ∷ (is 36 ∷ is 8 ∷ is 16 ∷ [])
      ∷ (isnt 37 ∷ is 36 ∷ is 35 ∷ []) ∷ (isnt 37 ∷ isnt 36 ∷ isnt 35 ∷ []) ∷ (is 37 ∷ isnt 36 ∷ is 35 ∷ []) ∷ (is 37 ∷ is 36 ∷ isnt 35 ∷ [])
      ∷ (isnt 8 ∷ is 16 ∷ is 38 ∷ []) ∷ (isnt 8 ∷ isnt 35 ∷ is 38 ∷ []) ∷ (is 16 ∷ isnt 35 ∷ is 38 ∷ []) ∷ (is 8 ∷ isnt 16 ∷ isnt 38 ∷ [])
      ∷ (is 8 ∷ is 35 ∷ isnt 38 ∷ []) ∷ (isnt 16 ∷ is 35 ∷ isnt 38 ∷ []) ∷ (isnt 39 ∷ is 9 ∷ isnt 17 ∷ []) ∷ (isnt 39 ∷ isnt 9 ∷ is 17 ∷ [])
      ∷ (is 39 ∷ isnt 9 ∷ isnt 17 ∷ []) ∷ (is 39 ∷ is 9 ∷ is 17 ∷ []) ∷ (isnt 40 ∷ is 39 ∷ is 38 ∷ []) ∷ (isnt 40 ∷ isnt 39 ∷ isnt 38 ∷ [])
      ∷ (is 40 ∷ isnt 39 ∷ is 38 ∷ []) ∷ (is 40 ∷ is 39 ∷ isnt 38 ∷ []) ∷ (isnt 9 ∷ is 17 ∷ is 41 ∷ []) ∷ (isnt 9 ∷ isnt 38 ∷ is 41 ∷ [])
      ∷ (is 17 ∷ isnt 38 ∷ is 41 ∷ []) ∷ (is 9 ∷ isnt 17 ∷ isnt 41 ∷ []) ∷ (is 9 ∷ is 38 ∷ isnt 41 ∷ []) ∷ (isnt 17 ∷ is 38 ∷ isnt 41 ∷ [])
      ∷ (isnt 42 ∷ is 19 ∷ is 1 ∷ []) ∷ (isnt 42 ∷ isnt 19 ∷ isnt 1 ∷ []) ∷ (is 42 ∷ isnt 19 ∷ is 1 ∷ []) ∷ (is 42 ∷ is 19 ∷ isnt 1 ∷ [])
      ∷ (isnt 43 ∷ is 22 ∷ is 1 ∷ []) ∷ (isnt 43 ∷ isnt 22 ∷ isnt 1 ∷ []) ∷ (is 43 ∷ isnt 22 ∷ is 1 ∷ []) ∷ (is 43 ∷ is 22 ∷ isnt 1 ∷ [])
      ∷ (isnt 44 ∷ is 25 ∷ isnt 1 ∷ []) ∷ (isnt 44 ∷ isnt 25 ∷ is 1 ∷ []) ∷ (is 44 ∷ isnt 25 ∷ isnt 1 ∷ []) ∷ (is 44 ∷ is 25 ∷ is 1 ∷ [])
      ∷ (isnt 45 ∷ is 28 ∷ isnt 1 ∷ []) ∷ (isnt 45 ∷ isnt 28 ∷ is 1 ∷ []) ∷ (is 45 ∷ isnt 28 ∷ isnt 1 ∷ []) ∷ (is 45 ∷ is 28 ∷ is 1 ∷ [])
      ∷ (isnt 46 ∷ is 31 ∷ isnt 1 ∷ []) ∷ (isnt 46 ∷ isnt 31 ∷ is 1 ∷ []) ∷ (is 46 ∷ isnt 31 ∷ isnt 1 ∷ []) ∷ (is 46 ∷ is 31 ∷ is 1 ∷ [])
      ∷ (isnt 47 ∷ is 34 ∷ isnt 1 ∷ []) ∷ (isnt 47 ∷ isnt 34 ∷ is 1 ∷ []) ∷ (is 47 ∷ isnt 34 ∷ isnt 1 ∷ []) ∷ (is 47 ∷ is 34 ∷ is 1 ∷ [])
      ∷ (isnt 48 ∷ is 37 ∷ isnt 1 ∷ []) ∷ (isnt 48 ∷ isnt 37 ∷ is 1 ∷ []) ∷ (is 48 ∷ isnt 37 ∷ isnt 1 ∷ []) ∷ (is 48 ∷ is 37 ∷ is 1 ∷ [])
      ∷ (isnt 49 ∷ is 40 ∷ isnt 1 ∷ []) ∷ (isnt 49 ∷ isnt 40 ∷ is 1 ∷ []) ∷ (is 49 ∷ isnt 40 ∷ isnt 1 ∷ []) ∷ (is 49 ∷ is 40 ∷ is 1 ∷ [])
      ∷ (isnt 50 ∷ isnt 42 ∷ []) ∷ (isnt 50 ∷ isnt 43 ∷ []) ∷ (is 50 ∷ is 42 ∷ is 43 ∷ []) ∷ (isnt 51 ∷ is 50 ∷ []) ∷ (isnt 51 ∷ isnt 44 ∷ [])
      ∷ (is 51 ∷ isnt 50 ∷ is 44 ∷ []) ∷ (isnt 52 ∷ is 51 ∷ []) ∷ (isnt 52 ∷ isnt 45 ∷ []) ∷ (is 52 ∷ isnt 51 ∷ is 45 ∷ []) ∷ (isnt 53 ∷ is 52 ∷ [])
      ∷ (isnt 53 ∷ isnt 46 ∷ []) ∷ (is 53 ∷ isnt 52 ∷ is 46 ∷ []) ∷ (isnt 54 ∷ is 53 ∷ []) ∷ (isnt 54 ∷ isnt 47 ∷ []) ∷ (is 54 ∷ isnt 53 ∷ is 47 ∷ [])
      ∷ (isnt 55 ∷ is 54 ∷ []) ∷ (isnt 55 ∷ isnt 48 ∷ []) ∷ (is 55 ∷ isnt 54 ∷ is 48 ∷ []) ∷ (isnt 56 ∷ is 55 ∷ []) ∷ (isnt 56 ∷ isnt 49 ∷ [])
      ∷ (is 56 ∷ isnt 55 ∷ is 49 ∷ []) ∷ (isnt 56 ∷ []) ∷ [];
}

-- three stages of choices by bits 0 to 2 of y; then whether a higher bit is set, and each bit without that
abbrev pub shift_by_count : Term
shift_by_count = equal (shift_left x y) (constant W8 16)

abbrev pub shift_by_count_clauses : Cnf
shift_by_count_clauses = record {
  variables = 68;
  clauses = (is 1 ∷ []) ∷ (isnt 10 ∷ is 1 ∷ is 18 ∷ []) ∷ (isnt 10 ∷ isnt 1 ∷ isnt 18 ∷ []) ∷ (is 10 ∷ isnt 2 ∷ is 18 ∷ []) ∷ (is 10 ∷ is 2 ∷ isnt 18 ∷ [])
      ∷ (isnt 10 ∷ isnt 2 ∷ is 19 ∷ []) ∷ (isnt 10 ∷ is 2 ∷ isnt 19 ∷ []) ∷ (is 10 ∷ isnt 3 ∷ is 19 ∷ []) ∷ (is 10 ∷ is 3 ∷ isnt 19 ∷ [])
      ∷ (isnt 10 ∷ isnt 3 ∷ is 20 ∷ []) ∷ (isnt 10 ∷ is 3 ∷ isnt 20 ∷ []) ∷ (is 10 ∷ isnt 4 ∷ is 20 ∷ []) ∷ (is 10 ∷ is 4 ∷ isnt 20 ∷ [])
      ∷ (isnt 10 ∷ isnt 4 ∷ is 21 ∷ []) ∷ (isnt 10 ∷ is 4 ∷ isnt 21 ∷ []) ∷ (is 10 ∷ isnt 5 ∷ is 21 ∷ []) ∷ (is 10 ∷ is 5 ∷ isnt 21 ∷ [])
      ∷ (isnt 10 ∷ isnt 5 ∷ is 22 ∷ []) ∷ (isnt 10 ∷ is 5 ∷ isnt 22 ∷ []) ∷ (is 10 ∷ isnt 6 ∷ is 22 ∷ []) ∷ (is 10 ∷ is 6 ∷ isnt 22 ∷ [])
      ∷ (isnt 10 ∷ isnt 6 ∷ is 23 ∷ []) ∷ (isnt 10 ∷ is 6 ∷ isnt 23 ∷ []) ∷ (is 10 ∷ isnt 7 ∷ is 23 ∷ []) ∷ (is 10 ∷ is 7 ∷ isnt 23 ∷ [])
      ∷ (isnt 10 ∷ isnt 7 ∷ is 24 ∷ []) ∷ (isnt 10 ∷ is 7 ∷ isnt 24 ∷ []) ∷ (is 10 ∷ isnt 8 ∷ is 24 ∷ []) ∷ (is 10 ∷ is 8 ∷ isnt 24 ∷ [])
      ∷ (isnt 10 ∷ isnt 8 ∷ is 25 ∷ []) ∷ (isnt 10 ∷ is 8 ∷ isnt 25 ∷ []) ∷ (is 10 ∷ isnt 9 ∷ is 25 ∷ []) ∷ (is 10 ∷ is 9 ∷ isnt 25 ∷ [])
      ∷ (isnt 11 ∷ is 1 ∷ is 26 ∷ []) ∷ (isnt 11 ∷ isnt 1 ∷ isnt 26 ∷ []) ∷ (is 11 ∷ isnt 18 ∷ is 26 ∷ []) ∷ (is 11 ∷ is 18 ∷ isnt 26 ∷ [])
      ∷ (isnt 11 ∷ is 1 ∷ is 27 ∷ []) ∷ (isnt 11 ∷ isnt 1 ∷ isnt 27 ∷ []) ∷ (is 11 ∷ isnt 19 ∷ is 27 ∷ []) ∷ (is 11 ∷ is 19 ∷ isnt 27 ∷ [])
      ∷ (isnt 11 ∷ isnt 18 ∷ is 28 ∷ []) ∷ (isnt 11 ∷ is 18 ∷ isnt 28 ∷ []) ∷ (is 11 ∷ isnt 20 ∷ is 28 ∷ []) ∷ (is 11 ∷ is 20 ∷ isnt 28 ∷ [])
      ∷ (isnt 11 ∷ isnt 19 ∷ is 29 ∷ []) ∷ (isnt 11 ∷ is 19 ∷ isnt 29 ∷ []) ∷ (is 11 ∷ isnt 21 ∷ is 29 ∷ []) ∷ (is 11 ∷ is 21 ∷ isnt 29 ∷ [])
      ∷ (isnt 11 ∷ isnt 20 ∷ is 30 ∷ []) ∷ (isnt 11 ∷ is 20 ∷ isnt 30 ∷ []) ∷ (is 11 ∷ isnt 22 ∷ is 30 ∷ []) ∷ (is 11 ∷ is 22 ∷ isnt 30 ∷ [])
      ∷ (isnt 11 ∷ isnt 21 ∷ is 31 ∷ []) ∷ (isnt 11 ∷ is 21 ∷ isnt 31 ∷ []) ∷ (is 11 ∷ isnt 23 ∷ is 31 ∷ []) ∷ (is 11 ∷ is 23 ∷ isnt 31 ∷ [])
      ∷ (isnt 11 ∷ isnt 22 ∷ is 32 ∷ []) ∷ (isnt 11 ∷ is 22 ∷ isnt 32 ∷ []) ∷ (is 11 ∷ isnt 24 ∷ is 32 ∷ []) ∷ (is 11 ∷ is 24 ∷ isnt 32 ∷ [])
      ∷ (isnt 11 ∷ isnt 23 ∷ is 33 ∷ []) ∷ (isnt 11 ∷ is 23 ∷ isnt 33 ∷ []) ∷ (is 11 ∷ isnt 25 ∷ is 33 ∷ []) ∷ (is 11 ∷ is 25 ∷ isnt 33 ∷ [])
      ∷ (isnt 12 ∷ is 1 ∷ is 34 ∷ []) ∷ (isnt 12 ∷ isnt 1 ∷ isnt 34 ∷ []) ∷ (is 12 ∷ isnt 26 ∷ is 34 ∷ []) ∷ (is 12 ∷ is 26 ∷ isnt 34 ∷ [])
      ∷ (isnt 12 ∷ is 1 ∷ is 35 ∷ []) ∷ (isnt 12 ∷ isnt 1 ∷ isnt 35 ∷ []) ∷ (is 12 ∷ isnt 27 ∷ is 35 ∷ []) ∷ (is 12 ∷ is 27 ∷ isnt 35 ∷ [])
      ∷ (isnt 12 ∷ is 1 ∷ is 36 ∷ []) ∷ (isnt 12 ∷ isnt 1 ∷ isnt 36 ∷ []) ∷ (is 12 ∷ isnt 28 ∷ is 36 ∷ []) ∷ (is 12 ∷ is 28 ∷ isnt 36 ∷ [])
      ∷ (isnt 12 ∷ is 1 ∷ is 37 ∷ []) ∷ (isnt 12 ∷ isnt 1 ∷ isnt 37 ∷ []) ∷ (is 12 ∷ isnt 29 ∷ is 37 ∷ []) ∷ (is 12 ∷ is 29 ∷ isnt 37 ∷ [])
      ∷ (isnt 12 ∷ isnt 26 ∷ is 38 ∷ []) ∷ (isnt 12 ∷ is 26 ∷ isnt 38 ∷ []) ∷ (is 12 ∷ isnt 30 ∷ is 38 ∷ []) ∷ (is 12 ∷ is 30 ∷ isnt 38 ∷ [])
      ∷ (isnt 12 ∷ isnt 27 ∷ is 39 ∷ []) ∷ (isnt 12 ∷ is 27 ∷ isnt 39 ∷ []) ∷ (is 12 ∷ isnt 31 ∷ is 39 ∷ []) ∷ (is 12 ∷ is 31 ∷ isnt 39 ∷ [])
      ∷ (isnt 12 ∷ isnt 28 ∷ is 40 ∷ []) ∷ (isnt 12 ∷ is 28 ∷ isnt 40 ∷ []) ∷ (is 12 ∷ isnt 32 ∷ is 40 ∷ []) ∷ (is 12 ∷ is 32 ∷ isnt 40 ∷ [])
      ∷ (isnt 12 ∷ isnt 29 ∷ is 41 ∷ []) ∷ (isnt 12 ∷ is 29 ∷ isnt 41 ∷ []) ∷ (is 12 ∷ isnt 33 ∷ is 41 ∷ []) ∷ (is 12 ∷ is 33 ∷ isnt 41 ∷ [])
      ∷ (isnt 42 ∷ isnt 13 ∷ []) ∷ (isnt 42 ∷ isnt 14 ∷ []) ∷ (is 42 ∷ is 13 ∷ is 14 ∷ []) ∷ (isnt 43 ∷ is 42 ∷ []) ∷ (isnt 43 ∷ isnt 15 ∷ [])
      ∷ (is 43 ∷ isnt 42 ∷ is 15 ∷ []) ∷ (isnt 44 ∷ is 43 ∷ []) ∷ (isnt 44 ∷ isnt 16 ∷ []) ∷ (is 44 ∷ isnt 43 ∷ is 16 ∷ []) ∷ (isnt 45 ∷ is 44 ∷ [])
      ∷ (isnt 45 ∷ isnt 17 ∷ []) ∷ (is 45 ∷ isnt 44 ∷ is 17 ∷ []) ∷ (isnt 46 ∷ is 45 ∷ []) ∷ (isnt 46 ∷ is 34 ∷ []) ∷ (is 46 ∷ isnt 45 ∷ isnt 34 ∷ [])
      ∷ (isnt 47 ∷ is 45 ∷ []) ∷ (isnt 47 ∷ is 35 ∷ []) ∷ (is 47 ∷ isnt 45 ∷ isnt 35 ∷ []) ∷ (isnt 48 ∷ is 45 ∷ []) ∷ (isnt 48 ∷ is 36 ∷ [])
      ∷ (is 48 ∷ isnt 45 ∷ isnt 36 ∷ []) ∷ (isnt 49 ∷ is 45 ∷ []) ∷ (isnt 49 ∷ is 37 ∷ []) ∷ (is 49 ∷ isnt 45 ∷ isnt 37 ∷ []) ∷ (isnt 50 ∷ is 45 ∷ [])
      ∷ (isnt 50 ∷ is 38 ∷ []) ∷ (is 50 ∷ isnt 45 ∷ isnt 38 ∷ []) ∷ (isnt 51 ∷ is 45 ∷ []) ∷ (isnt 51 ∷ is 39 ∷ []) ∷ (is 51 ∷ isnt 45 ∷ isnt 39 ∷ [])
      ∷ (isnt 52 ∷ is 45 ∷ []) ∷ (isnt 52 ∷ is 40 ∷ []) ∷ (is 52 ∷ isnt 45 ∷ isnt 40 ∷ []) ∷ (isnt 53 ∷ is 45 ∷ []) ∷ (isnt 53 ∷ is 41 ∷ [])
      ∷ (is 53 ∷ isnt 45 ∷ isnt 41 ∷ []) ∷ (isnt 54 ∷ is 46 ∷ isnt 1 ∷ []) ∷ (isnt 54 ∷ isnt 46 ∷ is 1 ∷ []) ∷ (is 54 ∷ isnt 46 ∷ isnt 1 ∷ [])
      ∷ (is 54 ∷ is 46 ∷ is 1 ∷ []) ∷ (isnt 55 ∷ is 47 ∷ isnt 1 ∷ []) ∷ (isnt 55 ∷ isnt 47 ∷ is 1 ∷ []) ∷ (is 55 ∷ isnt 47 ∷ isnt 1 ∷ [])
      ∷ (is 55 ∷ is 47 ∷ is 1 ∷ []) ∷ (isnt 56 ∷ is 48 ∷ isnt 1 ∷ []) ∷ (isnt 56 ∷ isnt 48 ∷ is 1 ∷ []) ∷ (is 56 ∷ isnt 48 ∷ isnt 1 ∷ [])
      ∷ (is 56 ∷ is 48 ∷ is 1 ∷ []) ∷ (isnt 57 ∷ is 49 ∷ isnt 1 ∷ []) ∷ (isnt 57 ∷ isnt 49 ∷ is 1 ∷ []) ∷ (is 57 ∷ isnt 49 ∷ isnt 1 ∷ [])
      ∷ (is 57 ∷ is 49 ∷ is 1 ∷ []) ∷ (isnt 58 ∷ is 50 ∷ is 1 ∷ []) ∷ (isnt 58 ∷ isnt 50 ∷ isnt 1 ∷ []) ∷ (is 58 ∷ isnt 50 ∷ is 1 ∷ [])
      ∷ (is 58 ∷ is 50 ∷ isnt 1 ∷ []) ∷ (isnt 59 ∷ is 51 ∷ isnt 1 ∷ []) ∷ (isnt 59 ∷ isnt 51 ∷ is 1 ∷ []) ∷ (is 59 ∷ isnt 51 ∷ isnt 1 ∷ [])
      ∷ (is 59 ∷ is 51 ∷ is 1 ∷ []) ∷ (isnt 60 ∷ is 52 ∷ isnt 1 ∷ []) ∷ (isnt 60 ∷ isnt 52 ∷ is 1 ∷ []) ∷ (is 60 ∷ isnt 52 ∷ isnt 1 ∷ [])
      ∷ (is 60 ∷ is 52 ∷ is 1 ∷ []) ∷ (isnt 61 ∷ is 53 ∷ isnt 1 ∷ []) ∷ (isnt 61 ∷ isnt 53 ∷ is 1 ∷ []) ∷ (is 61 ∷ isnt 53 ∷ isnt 1 ∷ [])
      ∷ (is 61 ∷ is 53 ∷ is 1 ∷ []) ∷ (isnt 62 ∷ isnt 54 ∷ []) ∷ (isnt 62 ∷ isnt 55 ∷ []) ∷ (is 62 ∷ is 54 ∷ is 55 ∷ []) ∷ (isnt 63 ∷ is 62 ∷ [])
      ∷ (isnt 63 ∷ isnt 56 ∷ []) ∷ (is 63 ∷ isnt 62 ∷ is 56 ∷ []) ∷ (isnt 64 ∷ is 63 ∷ []) ∷ (isnt 64 ∷ isnt 57 ∷ []) ∷ (is 64 ∷ isnt 63 ∷ is 57 ∷ [])
      ∷ (isnt 65 ∷ is 64 ∷ []) ∷ (isnt 65 ∷ isnt 58 ∷ []) ∷ (is 65 ∷ isnt 64 ∷ is 58 ∷ []) ∷ (isnt 66 ∷ is 65 ∷ []) ∷ (isnt 66 ∷ isnt 59 ∷ [])
      ∷ (is 66 ∷ isnt 65 ∷ is 59 ∷ []) ∷ (isnt 67 ∷ is 66 ∷ []) ∷ (isnt 67 ∷ isnt 60 ∷ []) ∷ (is 67 ∷ isnt 66 ∷ is 60 ∷ []) ∷ (isnt 68 ∷ is 67 ∷ [])
      ∷ (isnt 68 ∷ isnt 61 ∷ []) ∷ (is 68 ∷ isnt 67 ∷ is 61 ∷ []) ∷ (isnt 68 ∷ []) ∷ [];
}

-- stages by known bits; the sign comes in
abbrev pub signed_shift_by_one : Term
signed_shift_by_one = equal (shift_right_signed x (constant W8 1)) x

abbrev pub signed_shift_by_one_clauses : Cnf
signed_shift_by_one_clauses = record {
  variables = 60;
  clauses = (is 1 ∷ []) ∷ (isnt 1 ∷ isnt 3 ∷ is 10 ∷ []) ∷ (isnt 1 ∷ is 3 ∷ isnt 10 ∷ []) ∷ (is 1 ∷ isnt 2 ∷ is 10 ∷ []) ∷ (is 1 ∷ is 2 ∷ isnt 10 ∷ [])
      ∷ (isnt 1 ∷ isnt 4 ∷ is 11 ∷ []) ∷ (isnt 1 ∷ is 4 ∷ isnt 11 ∷ []) ∷ (is 1 ∷ isnt 3 ∷ is 11 ∷ []) ∷ (is 1 ∷ is 3 ∷ isnt 11 ∷ [])
      ∷ (isnt 1 ∷ isnt 5 ∷ is 12 ∷ []) ∷ (isnt 1 ∷ is 5 ∷ isnt 12 ∷ []) ∷ (is 1 ∷ isnt 4 ∷ is 12 ∷ []) ∷ (is 1 ∷ is 4 ∷ isnt 12 ∷ [])
      ∷ (isnt 1 ∷ isnt 6 ∷ is 13 ∷ []) ∷ (isnt 1 ∷ is 6 ∷ isnt 13 ∷ []) ∷ (is 1 ∷ isnt 5 ∷ is 13 ∷ []) ∷ (is 1 ∷ is 5 ∷ isnt 13 ∷ [])
      ∷ (isnt 1 ∷ isnt 7 ∷ is 14 ∷ []) ∷ (isnt 1 ∷ is 7 ∷ isnt 14 ∷ []) ∷ (is 1 ∷ isnt 6 ∷ is 14 ∷ []) ∷ (is 1 ∷ is 6 ∷ isnt 14 ∷ [])
      ∷ (isnt 1 ∷ isnt 8 ∷ is 15 ∷ []) ∷ (isnt 1 ∷ is 8 ∷ isnt 15 ∷ []) ∷ (is 1 ∷ isnt 7 ∷ is 15 ∷ []) ∷ (is 1 ∷ is 7 ∷ isnt 15 ∷ [])
      ∷ (isnt 1 ∷ isnt 9 ∷ is 16 ∷ []) ∷ (isnt 1 ∷ is 9 ∷ isnt 16 ∷ []) ∷ (is 1 ∷ isnt 8 ∷ is 16 ∷ []) ∷ (is 1 ∷ is 8 ∷ isnt 16 ∷ [])
      ∷ (isnt 1 ∷ isnt 9 ∷ is 17 ∷ []) ∷ (isnt 1 ∷ is 9 ∷ isnt 17 ∷ []) ∷ (is 1 ∷ isnt 9 ∷ is 17 ∷ []) ∷ (is 1 ∷ is 9 ∷ isnt 17 ∷ [])
      ∷ (is 1 ∷ isnt 12 ∷ is 18 ∷ []) ∷ (is 1 ∷ is 12 ∷ isnt 18 ∷ []) ∷ (isnt 1 ∷ isnt 10 ∷ is 18 ∷ []) ∷ (isnt 1 ∷ is 10 ∷ isnt 18 ∷ [])
      ∷ (is 1 ∷ isnt 13 ∷ is 19 ∷ []) ∷ (is 1 ∷ is 13 ∷ isnt 19 ∷ []) ∷ (isnt 1 ∷ isnt 11 ∷ is 19 ∷ []) ∷ (isnt 1 ∷ is 11 ∷ isnt 19 ∷ [])
      ∷ (is 1 ∷ isnt 14 ∷ is 20 ∷ []) ∷ (is 1 ∷ is 14 ∷ isnt 20 ∷ []) ∷ (isnt 1 ∷ isnt 12 ∷ is 20 ∷ []) ∷ (isnt 1 ∷ is 12 ∷ isnt 20 ∷ [])
      ∷ (is 1 ∷ isnt 15 ∷ is 21 ∷ []) ∷ (is 1 ∷ is 15 ∷ isnt 21 ∷ []) ∷ (isnt 1 ∷ isnt 13 ∷ is 21 ∷ []) ∷ (isnt 1 ∷ is 13 ∷ isnt 21 ∷ [])
      ∷ (is 1 ∷ isnt 16 ∷ is 22 ∷ []) ∷ (is 1 ∷ is 16 ∷ isnt 22 ∷ []) ∷ (isnt 1 ∷ isnt 14 ∷ is 22 ∷ []) ∷ (isnt 1 ∷ is 14 ∷ isnt 22 ∷ [])
      ∷ (is 1 ∷ isnt 17 ∷ is 23 ∷ []) ∷ (is 1 ∷ is 17 ∷ isnt 23 ∷ []) ∷ (isnt 1 ∷ isnt 15 ∷ is 23 ∷ []) ∷ (isnt 1 ∷ is 15 ∷ isnt 23 ∷ [])
      ∷ (is 1 ∷ isnt 9 ∷ is 24 ∷ []) ∷ (is 1 ∷ is 9 ∷ isnt 24 ∷ []) ∷ (isnt 1 ∷ isnt 16 ∷ is 24 ∷ []) ∷ (isnt 1 ∷ is 16 ∷ isnt 24 ∷ [])
      ∷ (is 1 ∷ isnt 9 ∷ is 25 ∷ []) ∷ (is 1 ∷ is 9 ∷ isnt 25 ∷ []) ∷ (isnt 1 ∷ isnt 17 ∷ is 25 ∷ []) ∷ (isnt 1 ∷ is 17 ∷ isnt 25 ∷ [])
      ∷ (is 1 ∷ isnt 22 ∷ is 26 ∷ []) ∷ (is 1 ∷ is 22 ∷ isnt 26 ∷ []) ∷ (isnt 1 ∷ isnt 18 ∷ is 26 ∷ []) ∷ (isnt 1 ∷ is 18 ∷ isnt 26 ∷ [])
      ∷ (is 1 ∷ isnt 23 ∷ is 27 ∷ []) ∷ (is 1 ∷ is 23 ∷ isnt 27 ∷ []) ∷ (isnt 1 ∷ isnt 19 ∷ is 27 ∷ []) ∷ (isnt 1 ∷ is 19 ∷ isnt 27 ∷ [])
      ∷ (is 1 ∷ isnt 24 ∷ is 28 ∷ []) ∷ (is 1 ∷ is 24 ∷ isnt 28 ∷ []) ∷ (isnt 1 ∷ isnt 20 ∷ is 28 ∷ []) ∷ (isnt 1 ∷ is 20 ∷ isnt 28 ∷ [])
      ∷ (is 1 ∷ isnt 25 ∷ is 29 ∷ []) ∷ (is 1 ∷ is 25 ∷ isnt 29 ∷ []) ∷ (isnt 1 ∷ isnt 21 ∷ is 29 ∷ []) ∷ (isnt 1 ∷ is 21 ∷ isnt 29 ∷ [])
      ∷ (is 1 ∷ isnt 9 ∷ is 30 ∷ []) ∷ (is 1 ∷ is 9 ∷ isnt 30 ∷ []) ∷ (isnt 1 ∷ isnt 22 ∷ is 30 ∷ []) ∷ (isnt 1 ∷ is 22 ∷ isnt 30 ∷ [])
      ∷ (is 1 ∷ isnt 9 ∷ is 31 ∷ []) ∷ (is 1 ∷ is 9 ∷ isnt 31 ∷ []) ∷ (isnt 1 ∷ isnt 23 ∷ is 31 ∷ []) ∷ (isnt 1 ∷ is 23 ∷ isnt 31 ∷ [])
      ∷ (is 1 ∷ isnt 9 ∷ is 32 ∷ []) ∷ (is 1 ∷ is 9 ∷ isnt 32 ∷ []) ∷ (isnt 1 ∷ isnt 24 ∷ is 32 ∷ []) ∷ (isnt 1 ∷ is 24 ∷ isnt 32 ∷ [])
      ∷ (is 1 ∷ isnt 9 ∷ is 33 ∷ []) ∷ (is 1 ∷ is 9 ∷ isnt 33 ∷ []) ∷ (isnt 1 ∷ isnt 25 ∷ is 33 ∷ []) ∷ (isnt 1 ∷ is 25 ∷ isnt 33 ∷ [])
      ∷ (isnt 34 ∷ is 1 ∷ []) ∷ (isnt 34 ∷ is 1 ∷ []) ∷ (is 34 ∷ isnt 1 ∷ isnt 1 ∷ []) ∷ (isnt 35 ∷ is 34 ∷ []) ∷ (isnt 35 ∷ is 1 ∷ [])
      ∷ (is 35 ∷ isnt 34 ∷ isnt 1 ∷ []) ∷ (isnt 36 ∷ is 35 ∷ []) ∷ (isnt 36 ∷ is 1 ∷ []) ∷ (is 36 ∷ isnt 35 ∷ isnt 1 ∷ []) ∷ (isnt 37 ∷ is 36 ∷ [])
      ∷ (isnt 37 ∷ is 1 ∷ []) ∷ (is 37 ∷ isnt 36 ∷ isnt 1 ∷ []) ∷ (is 37 ∷ isnt 9 ∷ is 38 ∷ []) ∷ (is 37 ∷ is 9 ∷ isnt 38 ∷ [])
      ∷ (isnt 37 ∷ isnt 26 ∷ is 38 ∷ []) ∷ (isnt 37 ∷ is 26 ∷ isnt 38 ∷ []) ∷ (is 37 ∷ isnt 9 ∷ is 39 ∷ []) ∷ (is 37 ∷ is 9 ∷ isnt 39 ∷ [])
      ∷ (isnt 37 ∷ isnt 27 ∷ is 39 ∷ []) ∷ (isnt 37 ∷ is 27 ∷ isnt 39 ∷ []) ∷ (is 37 ∷ isnt 9 ∷ is 40 ∷ []) ∷ (is 37 ∷ is 9 ∷ isnt 40 ∷ [])
      ∷ (isnt 37 ∷ isnt 28 ∷ is 40 ∷ []) ∷ (isnt 37 ∷ is 28 ∷ isnt 40 ∷ []) ∷ (is 37 ∷ isnt 9 ∷ is 41 ∷ []) ∷ (is 37 ∷ is 9 ∷ isnt 41 ∷ [])
      ∷ (isnt 37 ∷ isnt 29 ∷ is 41 ∷ []) ∷ (isnt 37 ∷ is 29 ∷ isnt 41 ∷ []) ∷ (is 37 ∷ isnt 9 ∷ is 42 ∷ []) ∷ (is 37 ∷ is 9 ∷ isnt 42 ∷ [])
      ∷ (isnt 37 ∷ isnt 30 ∷ is 42 ∷ []) ∷ (isnt 37 ∷ is 30 ∷ isnt 42 ∷ []) ∷ (is 37 ∷ isnt 9 ∷ is 43 ∷ []) ∷ (is 37 ∷ is 9 ∷ isnt 43 ∷ [])
      ∷ (isnt 37 ∷ isnt 31 ∷ is 43 ∷ []) ∷ (isnt 37 ∷ is 31 ∷ isnt 43 ∷ []) ∷ (is 37 ∷ isnt 9 ∷ is 44 ∷ []) ∷ (is 37 ∷ is 9 ∷ isnt 44 ∷ [])
      ∷ (isnt 37 ∷ isnt 32 ∷ is 44 ∷ []) ∷ (isnt 37 ∷ is 32 ∷ isnt 44 ∷ []) ∷ (is 37 ∷ isnt 9 ∷ is 45 ∷ []) ∷ (is 37 ∷ is 9 ∷ isnt 45 ∷ [])
      ∷ (isnt 37 ∷ isnt 33 ∷ is 45 ∷ []) ∷ (isnt 37 ∷ is 33 ∷ isnt 45 ∷ []) ∷ (isnt 46 ∷ is 38 ∷ is 2 ∷ []) ∷ (isnt 46 ∷ isnt 38 ∷ isnt 2 ∷ [])
      ∷ (is 46 ∷ isnt 38 ∷ is 2 ∷ []) ∷ (is 46 ∷ is 38 ∷ isnt 2 ∷ []) ∷ (isnt 47 ∷ is 39 ∷ is 3 ∷ []) ∷ (isnt 47 ∷ isnt 39 ∷ isnt 3 ∷ [])
      ∷ (is 47 ∷ isnt 39 ∷ is 3 ∷ []) ∷ (is 47 ∷ is 39 ∷ isnt 3 ∷ []) ∷ (isnt 48 ∷ is 40 ∷ is 4 ∷ []) ∷ (isnt 48 ∷ isnt 40 ∷ isnt 4 ∷ [])
      ∷ (is 48 ∷ isnt 40 ∷ is 4 ∷ []) ∷ (is 48 ∷ is 40 ∷ isnt 4 ∷ []) ∷ (isnt 49 ∷ is 41 ∷ is 5 ∷ []) ∷ (isnt 49 ∷ isnt 41 ∷ isnt 5 ∷ [])
      ∷ (is 49 ∷ isnt 41 ∷ is 5 ∷ []) ∷ (is 49 ∷ is 41 ∷ isnt 5 ∷ []) ∷ (isnt 50 ∷ is 42 ∷ is 6 ∷ []) ∷ (isnt 50 ∷ isnt 42 ∷ isnt 6 ∷ [])
      ∷ (is 50 ∷ isnt 42 ∷ is 6 ∷ []) ∷ (is 50 ∷ is 42 ∷ isnt 6 ∷ []) ∷ (isnt 51 ∷ is 43 ∷ is 7 ∷ []) ∷ (isnt 51 ∷ isnt 43 ∷ isnt 7 ∷ [])
      ∷ (is 51 ∷ isnt 43 ∷ is 7 ∷ []) ∷ (is 51 ∷ is 43 ∷ isnt 7 ∷ []) ∷ (isnt 52 ∷ is 44 ∷ is 8 ∷ []) ∷ (isnt 52 ∷ isnt 44 ∷ isnt 8 ∷ [])
      ∷ (is 52 ∷ isnt 44 ∷ is 8 ∷ []) ∷ (is 52 ∷ is 44 ∷ isnt 8 ∷ []) ∷ (isnt 53 ∷ is 45 ∷ is 9 ∷ []) ∷ (isnt 53 ∷ isnt 45 ∷ isnt 9 ∷ [])
      ∷ (is 53 ∷ isnt 45 ∷ is 9 ∷ []) ∷ (is 53 ∷ is 45 ∷ isnt 9 ∷ []) ∷ (isnt 54 ∷ isnt 46 ∷ []) ∷ (isnt 54 ∷ isnt 47 ∷ []) ∷ (is 54 ∷ is 46 ∷ is 47 ∷ [])
      ∷ (isnt 55 ∷ is 54 ∷ []) ∷ (isnt 55 ∷ isnt 48 ∷ []) ∷ (is 55 ∷ isnt 54 ∷ is 48 ∷ []) ∷ (isnt 56 ∷ is 55 ∷ []) ∷ (isnt 56 ∷ isnt 49 ∷ [])
      ∷ (is 56 ∷ isnt 55 ∷ is 49 ∷ []) ∷ (isnt 57 ∷ is 56 ∷ []) ∷ (isnt 57 ∷ isnt 50 ∷ []) ∷ (is 57 ∷ isnt 56 ∷ is 50 ∷ []) ∷ (isnt 58 ∷ is 57 ∷ [])
      ∷ (isnt 58 ∷ isnt 51 ∷ []) ∷ (is 58 ∷ isnt 57 ∷ is 51 ∷ []) ∷ (isnt 59 ∷ is 58 ∷ []) ∷ (isnt 59 ∷ isnt 52 ∷ []) ∷ (is 59 ∷ isnt 58 ∷ is 52 ∷ [])
      ∷ (isnt 60 ∷ is 59 ∷ []) ∷ (isnt 60 ∷ isnt 53 ∷ []) ∷ (is 60 ∷ isnt 59 ∷ is 53 ∷ []) ∷ (isnt 60 ∷ []) ∷ [];
}

-- a wider word, a byte of it and a join make no gates
abbrev pub rearranged : Term
rearranged = equal (zero_extend W16 (byte 1 (join_two x y))) (join_two y (constant W8 0))

abbrev pub rearranged_clauses : Cnf
rearranged_clauses = record {
  variables = 48;
  clauses = (is 1 ∷ []) ∷ (isnt 18 ∷ is 10 ∷ is 10 ∷ []) ∷ (isnt 18 ∷ isnt 10 ∷ isnt 10 ∷ []) ∷ (is 18 ∷ isnt 10 ∷ is 10 ∷ []) ∷ (is 18 ∷ is 10 ∷ isnt 10 ∷ [])
      ∷ (isnt 19 ∷ is 11 ∷ is 11 ∷ []) ∷ (isnt 19 ∷ isnt 11 ∷ isnt 11 ∷ []) ∷ (is 19 ∷ isnt 11 ∷ is 11 ∷ []) ∷ (is 19 ∷ is 11 ∷ isnt 11 ∷ [])
      ∷ (isnt 20 ∷ is 12 ∷ is 12 ∷ []) ∷ (isnt 20 ∷ isnt 12 ∷ isnt 12 ∷ []) ∷ (is 20 ∷ isnt 12 ∷ is 12 ∷ []) ∷ (is 20 ∷ is 12 ∷ isnt 12 ∷ [])
      ∷ (isnt 21 ∷ is 13 ∷ is 13 ∷ []) ∷ (isnt 21 ∷ isnt 13 ∷ isnt 13 ∷ []) ∷ (is 21 ∷ isnt 13 ∷ is 13 ∷ []) ∷ (is 21 ∷ is 13 ∷ isnt 13 ∷ [])
      ∷ (isnt 22 ∷ is 14 ∷ is 14 ∷ []) ∷ (isnt 22 ∷ isnt 14 ∷ isnt 14 ∷ []) ∷ (is 22 ∷ isnt 14 ∷ is 14 ∷ []) ∷ (is 22 ∷ is 14 ∷ isnt 14 ∷ [])
      ∷ (isnt 23 ∷ is 15 ∷ is 15 ∷ []) ∷ (isnt 23 ∷ isnt 15 ∷ isnt 15 ∷ []) ∷ (is 23 ∷ isnt 15 ∷ is 15 ∷ []) ∷ (is 23 ∷ is 15 ∷ isnt 15 ∷ [])
      ∷ (isnt 24 ∷ is 16 ∷ is 16 ∷ []) ∷ (isnt 24 ∷ isnt 16 ∷ isnt 16 ∷ []) ∷ (is 24 ∷ isnt 16 ∷ is 16 ∷ []) ∷ (is 24 ∷ is 16 ∷ isnt 16 ∷ [])
      ∷ (isnt 25 ∷ is 17 ∷ is 17 ∷ []) ∷ (isnt 25 ∷ isnt 17 ∷ isnt 17 ∷ []) ∷ (is 25 ∷ isnt 17 ∷ is 17 ∷ []) ∷ (is 25 ∷ is 17 ∷ isnt 17 ∷ [])
      ∷ (isnt 26 ∷ isnt 1 ∷ isnt 1 ∷ []) ∷ (isnt 26 ∷ is 1 ∷ is 1 ∷ []) ∷ (is 26 ∷ is 1 ∷ isnt 1 ∷ []) ∷ (is 26 ∷ isnt 1 ∷ is 1 ∷ [])
      ∷ (isnt 27 ∷ isnt 1 ∷ isnt 1 ∷ []) ∷ (isnt 27 ∷ is 1 ∷ is 1 ∷ []) ∷ (is 27 ∷ is 1 ∷ isnt 1 ∷ []) ∷ (is 27 ∷ isnt 1 ∷ is 1 ∷ [])
      ∷ (isnt 28 ∷ isnt 1 ∷ isnt 1 ∷ []) ∷ (isnt 28 ∷ is 1 ∷ is 1 ∷ []) ∷ (is 28 ∷ is 1 ∷ isnt 1 ∷ []) ∷ (is 28 ∷ isnt 1 ∷ is 1 ∷ [])
      ∷ (isnt 29 ∷ isnt 1 ∷ isnt 1 ∷ []) ∷ (isnt 29 ∷ is 1 ∷ is 1 ∷ []) ∷ (is 29 ∷ is 1 ∷ isnt 1 ∷ []) ∷ (is 29 ∷ isnt 1 ∷ is 1 ∷ [])
      ∷ (isnt 30 ∷ isnt 1 ∷ isnt 1 ∷ []) ∷ (isnt 30 ∷ is 1 ∷ is 1 ∷ []) ∷ (is 30 ∷ is 1 ∷ isnt 1 ∷ []) ∷ (is 30 ∷ isnt 1 ∷ is 1 ∷ [])
      ∷ (isnt 31 ∷ isnt 1 ∷ isnt 1 ∷ []) ∷ (isnt 31 ∷ is 1 ∷ is 1 ∷ []) ∷ (is 31 ∷ is 1 ∷ isnt 1 ∷ []) ∷ (is 31 ∷ isnt 1 ∷ is 1 ∷ [])
      ∷ (isnt 32 ∷ isnt 1 ∷ isnt 1 ∷ []) ∷ (isnt 32 ∷ is 1 ∷ is 1 ∷ []) ∷ (is 32 ∷ is 1 ∷ isnt 1 ∷ []) ∷ (is 32 ∷ isnt 1 ∷ is 1 ∷ [])
      ∷ (isnt 33 ∷ isnt 1 ∷ isnt 1 ∷ []) ∷ (isnt 33 ∷ is 1 ∷ is 1 ∷ []) ∷ (is 33 ∷ is 1 ∷ isnt 1 ∷ []) ∷ (is 33 ∷ isnt 1 ∷ is 1 ∷ [])
      ∷ (isnt 34 ∷ isnt 18 ∷ []) ∷ (isnt 34 ∷ isnt 19 ∷ []) ∷ (is 34 ∷ is 18 ∷ is 19 ∷ []) ∷ (isnt 35 ∷ is 34 ∷ []) ∷ (isnt 35 ∷ isnt 20 ∷ [])
      ∷ (is 35 ∷ isnt 34 ∷ is 20 ∷ []) ∷ (isnt 36 ∷ is 35 ∷ []) ∷ (isnt 36 ∷ isnt 21 ∷ []) ∷ (is 36 ∷ isnt 35 ∷ is 21 ∷ []) ∷ (isnt 37 ∷ is 36 ∷ [])
      ∷ (isnt 37 ∷ isnt 22 ∷ []) ∷ (is 37 ∷ isnt 36 ∷ is 22 ∷ []) ∷ (isnt 38 ∷ is 37 ∷ []) ∷ (isnt 38 ∷ isnt 23 ∷ []) ∷ (is 38 ∷ isnt 37 ∷ is 23 ∷ [])
      ∷ (isnt 39 ∷ is 38 ∷ []) ∷ (isnt 39 ∷ isnt 24 ∷ []) ∷ (is 39 ∷ isnt 38 ∷ is 24 ∷ []) ∷ (isnt 40 ∷ is 39 ∷ []) ∷ (isnt 40 ∷ isnt 25 ∷ [])
      ∷ (is 40 ∷ isnt 39 ∷ is 25 ∷ []) ∷ (isnt 41 ∷ is 40 ∷ []) ∷ (isnt 41 ∷ isnt 26 ∷ []) ∷ (is 41 ∷ isnt 40 ∷ is 26 ∷ []) ∷ (isnt 42 ∷ is 41 ∷ [])
      ∷ (isnt 42 ∷ isnt 27 ∷ []) ∷ (is 42 ∷ isnt 41 ∷ is 27 ∷ []) ∷ (isnt 43 ∷ is 42 ∷ []) ∷ (isnt 43 ∷ isnt 28 ∷ []) ∷ (is 43 ∷ isnt 42 ∷ is 28 ∷ [])
      ∷ (isnt 44 ∷ is 43 ∷ []) ∷ (isnt 44 ∷ isnt 29 ∷ []) ∷ (is 44 ∷ isnt 43 ∷ is 29 ∷ []) ∷ (isnt 45 ∷ is 44 ∷ []) ∷ (isnt 45 ∷ isnt 30 ∷ [])
      ∷ (is 45 ∷ isnt 44 ∷ is 30 ∷ []) ∷ (isnt 46 ∷ is 45 ∷ []) ∷ (isnt 46 ∷ isnt 31 ∷ []) ∷ (is 46 ∷ isnt 45 ∷ is 31 ∷ []) ∷ (isnt 47 ∷ is 46 ∷ [])
      ∷ (isnt 47 ∷ isnt 32 ∷ []) ∷ (is 47 ∷ isnt 46 ∷ is 32 ∷ []) ∷ (isnt 48 ∷ is 47 ∷ []) ∷ (isnt 48 ∷ isnt 33 ∷ []) ∷ (is 48 ∷ isnt 47 ∷ is 33 ∷ [])
      ∷ (isnt 48 ∷ []) ∷ [];
}

-- the addresses have variables 2 to 33 and 42 to 73, the bytes loaded 34 to 41 and 74 to 81; after the test of the bytes
-- comes that of the addresses, and what it ties
abbrev pub loads : Term
loads = equal (load m a) (load m b)

abbrev pub loads_clauses : Cnf
loads_clauses = record {
  variables = 159;
  clauses = (is 1 ∷ []) ∷ (isnt 82 ∷ is 34 ∷ is 74 ∷ []) ∷ (isnt 82 ∷ isnt 34 ∷ isnt 74 ∷ []) ∷ (is 82 ∷ isnt 34 ∷ is 74 ∷ []) ∷ (is 82 ∷ is 34 ∷ isnt 74 ∷ [])
      ∷ (isnt 83 ∷ is 35 ∷ is 75 ∷ []) ∷ (isnt 83 ∷ isnt 35 ∷ isnt 75 ∷ []) ∷ (is 83 ∷ isnt 35 ∷ is 75 ∷ []) ∷ (is 83 ∷ is 35 ∷ isnt 75 ∷ [])
      ∷ (isnt 84 ∷ is 36 ∷ is 76 ∷ []) ∷ (isnt 84 ∷ isnt 36 ∷ isnt 76 ∷ []) ∷ (is 84 ∷ isnt 36 ∷ is 76 ∷ []) ∷ (is 84 ∷ is 36 ∷ isnt 76 ∷ [])
      ∷ (isnt 85 ∷ is 37 ∷ is 77 ∷ []) ∷ (isnt 85 ∷ isnt 37 ∷ isnt 77 ∷ []) ∷ (is 85 ∷ isnt 37 ∷ is 77 ∷ []) ∷ (is 85 ∷ is 37 ∷ isnt 77 ∷ [])
      ∷ (isnt 86 ∷ is 38 ∷ is 78 ∷ []) ∷ (isnt 86 ∷ isnt 38 ∷ isnt 78 ∷ []) ∷ (is 86 ∷ isnt 38 ∷ is 78 ∷ []) ∷ (is 86 ∷ is 38 ∷ isnt 78 ∷ [])
      ∷ (isnt 87 ∷ is 39 ∷ is 79 ∷ []) ∷ (isnt 87 ∷ isnt 39 ∷ isnt 79 ∷ []) ∷ (is 87 ∷ isnt 39 ∷ is 79 ∷ []) ∷ (is 87 ∷ is 39 ∷ isnt 79 ∷ [])
      ∷ (isnt 88 ∷ is 40 ∷ is 80 ∷ []) ∷ (isnt 88 ∷ isnt 40 ∷ isnt 80 ∷ []) ∷ (is 88 ∷ isnt 40 ∷ is 80 ∷ []) ∷ (is 88 ∷ is 40 ∷ isnt 80 ∷ [])
      ∷ (isnt 89 ∷ is 41 ∷ is 81 ∷ []) ∷ (isnt 89 ∷ isnt 41 ∷ isnt 81 ∷ []) ∷ (is 89 ∷ isnt 41 ∷ is 81 ∷ []) ∷ (is 89 ∷ is 41 ∷ isnt 81 ∷ [])
      ∷ (isnt 90 ∷ isnt 82 ∷ []) ∷ (isnt 90 ∷ isnt 83 ∷ []) ∷ (is 90 ∷ is 82 ∷ is 83 ∷ []) ∷ (isnt 91 ∷ is 90 ∷ []) ∷ (isnt 91 ∷ isnt 84 ∷ [])
      ∷ (is 91 ∷ isnt 90 ∷ is 84 ∷ []) ∷ (isnt 92 ∷ is 91 ∷ []) ∷ (isnt 92 ∷ isnt 85 ∷ []) ∷ (is 92 ∷ isnt 91 ∷ is 85 ∷ []) ∷ (isnt 93 ∷ is 92 ∷ [])
      ∷ (isnt 93 ∷ isnt 86 ∷ []) ∷ (is 93 ∷ isnt 92 ∷ is 86 ∷ []) ∷ (isnt 94 ∷ is 93 ∷ []) ∷ (isnt 94 ∷ isnt 87 ∷ []) ∷ (is 94 ∷ isnt 93 ∷ is 87 ∷ [])
      ∷ (isnt 95 ∷ is 94 ∷ []) ∷ (isnt 95 ∷ isnt 88 ∷ []) ∷ (is 95 ∷ isnt 94 ∷ is 88 ∷ []) ∷ (isnt 96 ∷ is 95 ∷ []) ∷ (isnt 96 ∷ isnt 89 ∷ [])
      ∷ (is 96 ∷ isnt 95 ∷ is 89 ∷ []) ∷ (isnt 97 ∷ is 2 ∷ is 42 ∷ []) ∷ (isnt 97 ∷ isnt 2 ∷ isnt 42 ∷ []) ∷ (is 97 ∷ isnt 2 ∷ is 42 ∷ [])
      ∷ (is 97 ∷ is 2 ∷ isnt 42 ∷ []) ∷ (isnt 98 ∷ is 3 ∷ is 43 ∷ []) ∷ (isnt 98 ∷ isnt 3 ∷ isnt 43 ∷ []) ∷ (is 98 ∷ isnt 3 ∷ is 43 ∷ [])
      ∷ (is 98 ∷ is 3 ∷ isnt 43 ∷ []) ∷ (isnt 99 ∷ is 4 ∷ is 44 ∷ []) ∷ (isnt 99 ∷ isnt 4 ∷ isnt 44 ∷ []) ∷ (is 99 ∷ isnt 4 ∷ is 44 ∷ [])
      ∷ (is 99 ∷ is 4 ∷ isnt 44 ∷ []) ∷ (isnt 100 ∷ is 5 ∷ is 45 ∷ []) ∷ (isnt 100 ∷ isnt 5 ∷ isnt 45 ∷ []) ∷ (is 100 ∷ isnt 5 ∷ is 45 ∷ [])
      ∷ (is 100 ∷ is 5 ∷ isnt 45 ∷ []) ∷ (isnt 101 ∷ is 6 ∷ is 46 ∷ []) ∷ (isnt 101 ∷ isnt 6 ∷ isnt 46 ∷ []) ∷ (is 101 ∷ isnt 6 ∷ is 46 ∷ [])
      ∷ (is 101 ∷ is 6 ∷ isnt 46 ∷ []) ∷ (isnt 102 ∷ is 7 ∷ is 47 ∷ []) ∷ (isnt 102 ∷ isnt 7 ∷ isnt 47 ∷ []) ∷ (is 102 ∷ isnt 7 ∷ is 47 ∷ [])
      ∷ (is 102 ∷ is 7 ∷ isnt 47 ∷ []) ∷ (isnt 103 ∷ is 8 ∷ is 48 ∷ []) ∷ (isnt 103 ∷ isnt 8 ∷ isnt 48 ∷ []) ∷ (is 103 ∷ isnt 8 ∷ is 48 ∷ [])
      ∷ (is 103 ∷ is 8 ∷ isnt 48 ∷ []) ∷ (isnt 104 ∷ is 9 ∷ is 49 ∷ []) ∷ (isnt 104 ∷ isnt 9 ∷ isnt 49 ∷ []) ∷ (is 104 ∷ isnt 9 ∷ is 49 ∷ [])
      ∷ (is 104 ∷ is 9 ∷ isnt 49 ∷ []) ∷ (isnt 105 ∷ is 10 ∷ is 50 ∷ []) ∷ (isnt 105 ∷ isnt 10 ∷ isnt 50 ∷ []) ∷ (is 105 ∷ isnt 10 ∷ is 50 ∷ [])
      ∷ (is 105 ∷ is 10 ∷ isnt 50 ∷ []) ∷ (isnt 106 ∷ is 11 ∷ is 51 ∷ []) ∷ (isnt 106 ∷ isnt 11 ∷ isnt 51 ∷ []) ∷ (is 106 ∷ isnt 11 ∷ is 51 ∷ [])
      ∷ (is 106 ∷ is 11 ∷ isnt 51 ∷ []) ∷ (isnt 107 ∷ is 12 ∷ is 52 ∷ []) ∷ (isnt 107 ∷ isnt 12 ∷ isnt 52 ∷ []) ∷ (is 107 ∷ isnt 12 ∷ is 52 ∷ [])
      ∷ (is 107 ∷ is 12 ∷ isnt 52 ∷ []) ∷ (isnt 108 ∷ is 13 ∷ is 53 ∷ []) ∷ (isnt 108 ∷ isnt 13 ∷ isnt 53 ∷ []) ∷ (is 108 ∷ isnt 13 ∷ is 53 ∷ [])
      ∷ (is 108 ∷ is 13 ∷ isnt 53 ∷ []) ∷ (isnt 109 ∷ is 14 ∷ is 54 ∷ []) ∷ (isnt 109 ∷ isnt 14 ∷ isnt 54 ∷ []) ∷ (is 109 ∷ isnt 14 ∷ is 54 ∷ [])
      ∷ (is 109 ∷ is 14 ∷ isnt 54 ∷ []) ∷ (isnt 110 ∷ is 15 ∷ is 55 ∷ []) ∷ (isnt 110 ∷ isnt 15 ∷ isnt 55 ∷ []) ∷ (is 110 ∷ isnt 15 ∷ is 55 ∷ [])
      ∷ (is 110 ∷ is 15 ∷ isnt 55 ∷ []) ∷ (isnt 111 ∷ is 16 ∷ is 56 ∷ []) ∷ (isnt 111 ∷ isnt 16 ∷ isnt 56 ∷ []) ∷ (is 111 ∷ isnt 16 ∷ is 56 ∷ [])
      ∷ (is 111 ∷ is 16 ∷ isnt 56 ∷ []) ∷ (isnt 112 ∷ is 17 ∷ is 57 ∷ []) ∷ (isnt 112 ∷ isnt 17 ∷ isnt 57 ∷ []) ∷ (is 112 ∷ isnt 17 ∷ is 57 ∷ [])
      ∷ (is 112 ∷ is 17 ∷ isnt 57 ∷ []) ∷ (isnt 113 ∷ is 18 ∷ is 58 ∷ []) ∷ (isnt 113 ∷ isnt 18 ∷ isnt 58 ∷ []) ∷ (is 113 ∷ isnt 18 ∷ is 58 ∷ [])
      ∷ (is 113 ∷ is 18 ∷ isnt 58 ∷ []) ∷ (isnt 114 ∷ is 19 ∷ is 59 ∷ []) ∷ (isnt 114 ∷ isnt 19 ∷ isnt 59 ∷ []) ∷ (is 114 ∷ isnt 19 ∷ is 59 ∷ [])
      ∷ (is 114 ∷ is 19 ∷ isnt 59 ∷ []) ∷ (isnt 115 ∷ is 20 ∷ is 60 ∷ []) ∷ (isnt 115 ∷ isnt 20 ∷ isnt 60 ∷ []) ∷ (is 115 ∷ isnt 20 ∷ is 60 ∷ [])
      ∷ (is 115 ∷ is 20 ∷ isnt 60 ∷ []) ∷ (isnt 116 ∷ is 21 ∷ is 61 ∷ []) ∷ (isnt 116 ∷ isnt 21 ∷ isnt 61 ∷ []) ∷ (is 116 ∷ isnt 21 ∷ is 61 ∷ [])
      ∷ (is 116 ∷ is 21 ∷ isnt 61 ∷ []) ∷ (isnt 117 ∷ is 22 ∷ is 62 ∷ []) ∷ (isnt 117 ∷ isnt 22 ∷ isnt 62 ∷ []) ∷ (is 117 ∷ isnt 22 ∷ is 62 ∷ [])
      ∷ (is 117 ∷ is 22 ∷ isnt 62 ∷ []) ∷ (isnt 118 ∷ is 23 ∷ is 63 ∷ []) ∷ (isnt 118 ∷ isnt 23 ∷ isnt 63 ∷ []) ∷ (is 118 ∷ isnt 23 ∷ is 63 ∷ [])
      ∷ (is 118 ∷ is 23 ∷ isnt 63 ∷ []) ∷ (isnt 119 ∷ is 24 ∷ is 64 ∷ []) ∷ (isnt 119 ∷ isnt 24 ∷ isnt 64 ∷ []) ∷ (is 119 ∷ isnt 24 ∷ is 64 ∷ [])
      ∷ (is 119 ∷ is 24 ∷ isnt 64 ∷ []) ∷ (isnt 120 ∷ is 25 ∷ is 65 ∷ []) ∷ (isnt 120 ∷ isnt 25 ∷ isnt 65 ∷ []) ∷ (is 120 ∷ isnt 25 ∷ is 65 ∷ [])
      ∷ (is 120 ∷ is 25 ∷ isnt 65 ∷ []) ∷ (isnt 121 ∷ is 26 ∷ is 66 ∷ []) ∷ (isnt 121 ∷ isnt 26 ∷ isnt 66 ∷ []) ∷ (is 121 ∷ isnt 26 ∷ is 66 ∷ [])
      ∷ (is 121 ∷ is 26 ∷ isnt 66 ∷ []) ∷ (isnt 122 ∷ is 27 ∷ is 67 ∷ []) ∷ (isnt 122 ∷ isnt 27 ∷ isnt 67 ∷ []) ∷ (is 122 ∷ isnt 27 ∷ is 67 ∷ [])
      ∷ (is 122 ∷ is 27 ∷ isnt 67 ∷ []) ∷ (isnt 123 ∷ is 28 ∷ is 68 ∷ []) ∷ (isnt 123 ∷ isnt 28 ∷ isnt 68 ∷ []) ∷ (is 123 ∷ isnt 28 ∷ is 68 ∷ [])
      ∷ (is 123 ∷ is 28 ∷ isnt 68 ∷ []) ∷ (isnt 124 ∷ is 29 ∷ is 69 ∷ []) ∷ (isnt 124 ∷ isnt 29 ∷ isnt 69 ∷ []) ∷ (is 124 ∷ isnt 29 ∷ is 69 ∷ [])
      ∷ (is 124 ∷ is 29 ∷ isnt 69 ∷ []) ∷ (isnt 125 ∷ is 30 ∷ is 70 ∷ []) ∷ (isnt 125 ∷ isnt 30 ∷ isnt 70 ∷ []) ∷ (is 125 ∷ isnt 30 ∷ is 70 ∷ [])
      ∷ (is 125 ∷ is 30 ∷ isnt 70 ∷ []) ∷ (isnt 126 ∷ is 31 ∷ is 71 ∷ []) ∷ (isnt 126 ∷ isnt 31 ∷ isnt 71 ∷ []) ∷ (is 126 ∷ isnt 31 ∷ is 71 ∷ [])
      ∷ (is 126 ∷ is 31 ∷ isnt 71 ∷ []) ∷ (isnt 127 ∷ is 32 ∷ is 72 ∷ []) ∷ (isnt 127 ∷ isnt 32 ∷ isnt 72 ∷ []) ∷ (is 127 ∷ isnt 32 ∷ is 72 ∷ [])
      ∷ (is 127 ∷ is 32 ∷ isnt 72 ∷ []) ∷ (isnt 128 ∷ is 33 ∷ is 73 ∷ []) ∷ (isnt 128 ∷ isnt 33 ∷ isnt 73 ∷ []) ∷ (is 128 ∷ isnt 33 ∷ is 73 ∷ [])
      ∷ (is 128 ∷ is 33 ∷ isnt 73 ∷ []) ∷ (isnt 129 ∷ isnt 97 ∷ []) ∷ (isnt 129 ∷ isnt 98 ∷ []) ∷ (is 129 ∷ is 97 ∷ is 98 ∷ []) ∷ (isnt 130 ∷ is 129 ∷ [])
      ∷ (isnt 130 ∷ isnt 99 ∷ []) ∷ (is 130 ∷ isnt 129 ∷ is 99 ∷ []) ∷ (isnt 131 ∷ is 130 ∷ []) ∷ (isnt 131 ∷ isnt 100 ∷ [])
      ∷ (is 131 ∷ isnt 130 ∷ is 100 ∷ []) ∷ (isnt 132 ∷ is 131 ∷ []) ∷ (isnt 132 ∷ isnt 101 ∷ []) ∷ (is 132 ∷ isnt 131 ∷ is 101 ∷ [])
      ∷ (isnt 133 ∷ is 132 ∷ []) ∷ (isnt 133 ∷ isnt 102 ∷ []) ∷ (is 133 ∷ isnt 132 ∷ is 102 ∷ []) ∷ (isnt 134 ∷ is 133 ∷ []) ∷ (isnt 134 ∷ isnt 103 ∷ [])
      ∷ (is 134 ∷ isnt 133 ∷ is 103 ∷ []) ∷ (isnt 135 ∷ is 134 ∷ []) ∷ (isnt 135 ∷ isnt 104 ∷ []) ∷ (is 135 ∷ isnt 134 ∷ is 104 ∷ [])
      ∷ (isnt 136 ∷ is 135 ∷ []) ∷ (isnt 136 ∷ isnt 105 ∷ []) ∷ (is 136 ∷ isnt 135 ∷ is 105 ∷ []) ∷ (isnt 137 ∷ is 136 ∷ []) ∷ (isnt 137 ∷ isnt 106 ∷ [])
      ∷ (is 137 ∷ isnt 136 ∷ is 106 ∷ []) ∷ (isnt 138 ∷ is 137 ∷ []) ∷ (isnt 138 ∷ isnt 107 ∷ []) ∷ (is 138 ∷ isnt 137 ∷ is 107 ∷ [])
      ∷ (isnt 139 ∷ is 138 ∷ []) ∷ (isnt 139 ∷ isnt 108 ∷ []) ∷ (is 139 ∷ isnt 138 ∷ is 108 ∷ []) ∷ (isnt 140 ∷ is 139 ∷ []) ∷ (isnt 140 ∷ isnt 109 ∷ [])
      ∷ (is 140 ∷ isnt 139 ∷ is 109 ∷ []) ∷ (isnt 141 ∷ is 140 ∷ []) ∷ (isnt 141 ∷ isnt 110 ∷ []) ∷ (is 141 ∷ isnt 140 ∷ is 110 ∷ [])
      ∷ (isnt 142 ∷ is 141 ∷ []) ∷ (isnt 142 ∷ isnt 111 ∷ []) ∷ (is 142 ∷ isnt 141 ∷ is 111 ∷ []) ∷ (isnt 143 ∷ is 142 ∷ []) ∷ (isnt 143 ∷ isnt 112 ∷ [])
      ∷ (is 143 ∷ isnt 142 ∷ is 112 ∷ []) ∷ (isnt 144 ∷ is 143 ∷ []) ∷ (isnt 144 ∷ isnt 113 ∷ []) ∷ (is 144 ∷ isnt 143 ∷ is 113 ∷ [])
      ∷ (isnt 145 ∷ is 144 ∷ []) ∷ (isnt 145 ∷ isnt 114 ∷ []) ∷ (is 145 ∷ isnt 144 ∷ is 114 ∷ []) ∷ (isnt 146 ∷ is 145 ∷ []) ∷ (isnt 146 ∷ isnt 115 ∷ [])
      ∷ (is 146 ∷ isnt 145 ∷ is 115 ∷ []) ∷ (isnt 147 ∷ is 146 ∷ []) ∷ (isnt 147 ∷ isnt 116 ∷ []) ∷ (is 147 ∷ isnt 146 ∷ is 116 ∷ [])
      ∷ (isnt 148 ∷ is 147 ∷ []) ∷ (isnt 148 ∷ isnt 117 ∷ []) ∷ (is 148 ∷ isnt 147 ∷ is 117 ∷ []) ∷ (isnt 149 ∷ is 148 ∷ []) ∷ (isnt 149 ∷ isnt 118 ∷ [])
      ∷ (is 149 ∷ isnt 148 ∷ is 118 ∷ []) ∷ (isnt 150 ∷ is 149 ∷ []) ∷ (isnt 150 ∷ isnt 119 ∷ []) ∷ (is 150 ∷ isnt 149 ∷ is 119 ∷ [])
      ∷ (isnt 151 ∷ is 150 ∷ []) ∷ (isnt 151 ∷ isnt 120 ∷ []) ∷ (is 151 ∷ isnt 150 ∷ is 120 ∷ []) ∷ (isnt 152 ∷ is 151 ∷ []) ∷ (isnt 152 ∷ isnt 121 ∷ [])
      ∷ (is 152 ∷ isnt 151 ∷ is 121 ∷ []) ∷ (isnt 153 ∷ is 152 ∷ []) ∷ (isnt 153 ∷ isnt 122 ∷ []) ∷ (is 153 ∷ isnt 152 ∷ is 122 ∷ [])
      ∷ (isnt 154 ∷ is 153 ∷ []) ∷ (isnt 154 ∷ isnt 123 ∷ []) ∷ (is 154 ∷ isnt 153 ∷ is 123 ∷ []) ∷ (isnt 155 ∷ is 154 ∷ []) ∷ (isnt 155 ∷ isnt 124 ∷ [])
      ∷ (is 155 ∷ isnt 154 ∷ is 124 ∷ []) ∷ (isnt 156 ∷ is 155 ∷ []) ∷ (isnt 156 ∷ isnt 125 ∷ []) ∷ (is 156 ∷ isnt 155 ∷ is 125 ∷ [])
      ∷ (isnt 157 ∷ is 156 ∷ []) ∷ (isnt 157 ∷ isnt 126 ∷ []) ∷ (is 157 ∷ isnt 156 ∷ is 126 ∷ []) ∷ (isnt 158 ∷ is 157 ∷ []) ∷ (isnt 158 ∷ isnt 127 ∷ [])
      ∷ (is 158 ∷ isnt 157 ∷ is 127 ∷ []) ∷ (isnt 159 ∷ is 158 ∷ []) ∷ (isnt 159 ∷ isnt 128 ∷ []) ∷ (is 159 ∷ isnt 158 ∷ is 128 ∷ [])
      ∷ (isnt 159 ∷ isnt 34 ∷ is 74 ∷ []) ∷ (isnt 159 ∷ is 34 ∷ isnt 74 ∷ []) ∷ (isnt 159 ∷ isnt 35 ∷ is 75 ∷ []) ∷ (isnt 159 ∷ is 35 ∷ isnt 75 ∷ [])
      ∷ (isnt 159 ∷ isnt 36 ∷ is 76 ∷ []) ∷ (isnt 159 ∷ is 36 ∷ isnt 76 ∷ []) ∷ (isnt 159 ∷ isnt 37 ∷ is 77 ∷ []) ∷ (isnt 159 ∷ is 37 ∷ isnt 77 ∷ [])
      ∷ (isnt 159 ∷ isnt 38 ∷ is 78 ∷ []) ∷ (isnt 159 ∷ is 38 ∷ isnt 78 ∷ []) ∷ (isnt 159 ∷ isnt 39 ∷ is 79 ∷ []) ∷ (isnt 159 ∷ is 39 ∷ isnt 79 ∷ [])
      ∷ (isnt 159 ∷ isnt 40 ∷ is 80 ∷ []) ∷ (isnt 159 ∷ is 40 ∷ isnt 80 ∷ []) ∷ (isnt 159 ∷ isnt 41 ∷ is 81 ∷ []) ∷ (isnt 159 ∷ is 41 ∷ isnt 81 ∷ [])
      ∷ (isnt 96 ∷ []) ∷ [];
}
