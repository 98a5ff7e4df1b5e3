-- Cells, terms, memories, and the effect of one execution of a statement.
use Rattle.std.specs.Prelude.{◌≡◌, ◌⊎◌, ℕ, ◌+◌, List, [], ◌∷◌, ◌++◌, ℤ, Bool, true, false, cond, ◌&&◌}
use Rattle.std.specs.Ordering.{int_eq}
use Rattle.std.specs.Cmp.Lexicographic.{pointwise}
use Rattle.scop_data.specs.Sequences.{In}
use Rattle.scop_data.specs.declared.accesses.AccessKind.{AccessKind}
use Rattle.scop_data.specs.declared.accesses.AccessKind.TheVariants.{Read, Write, MayWrite}

-- an element of an array: the array's identifier and the subscripts; a scalar has none
pub record Cell : Type 0 where
  pub array : ℤ
  pub subscripts : List ℤ

-- what a cell can hold: what it held at the start, or what a body computed
mutual
  pub data Term : Type 0 where
    Initial : (cell : Cell) → Term
    App : (text : List ℕ) → (names : List (List ℕ)) → (write : ℕ) → (values : List ℤ) → (parameters : List ℤ) → (read : Terms) → Term

  pub data Terms : Type 0 where
    NoTerms : Terms
    More : (first : Term) → (rest : Terms) → Terms

-- a memory tells what each cell holds
abbrev pub Memory : Type 0
Memory = Cell → Term

-- two memories hold the same term in every cell
abbrev pub Agree : Memory → Memory → Type 0
Agree m k = (c : Cell) → m c ≡ k c

-- the memory at the start
abbrev pub initial : Memory
initial c = Initial c

-- the test of two cells for equality
abbrev pub same_cell : Cell → Cell → Bool
same_cell c d = int_eq c.array d.array && pointwise int_eq c.subscripts d.subscripts

-- the memory m but with t in the cell c
abbrev pub stored : Memory → Cell → Term → Memory
stored m c t = λ d. cond (same_cell c d) t (m d)

-- the terms that the memory holds in these cells, in their order
abbrev pub terms_at : Memory → List Cell → Terms
terms_at m [] = NoTerms
terms_at m (c ∷ cs) = More (m c) (terms_at m cs)

-- stores into each cell in turn the term of its number, counted on from w
abbrev pub store_each : (ℕ → Term) → ℕ → List Cell → Memory → Memory
store_each term w [] m = m
store_each term w (c ∷ cs) m = store_each term (w + 1) cs (stored m c (term w))

-- one access of one execution
pub record Use : Type 0 where
  pub kind : AccessKind
  pub cell : Cell

-- one execution of a statement: its accesses in order, its body, and the values that it has
pub record Event : Type 0 where
  pub uses : List Use
  pub text : List ℕ
  pub names : List (List ℕ)
  pub values : List ℤ
  pub parameters : List ℤ

-- a writing access writes its cell, or may write it
abbrev pub is_writing : AccessKind → Bool
is_writing Read = false
is_writing Write = true
is_writing MayWrite = true

-- an access that only reads
abbrev pub is_read : AccessKind → Bool
is_read Read = true
is_read Write = false
is_read MayWrite = false

-- an access that may write its cell; the body takes what the cell had, and may answer it
abbrev pub is_maybe_written : AccessKind → Bool
is_maybe_written Read = false
is_maybe_written Write = false
is_maybe_written MayWrite = true

-- the cells of the accesses of such kinds, in order
abbrev pub cells_of : (AccessKind → Bool) → List Use → List Cell
cells_of chosen [] = []
cells_of chosen (u ∷ us) = cond (chosen u.kind) (u.cell ∷ cells_of chosen us) (cells_of chosen us)

-- the terms that the body takes: those of the cells that it reads, then of those that it may write
abbrev pub taken : Event → Memory → Terms
taken e m = terms_at m (cells_of is_read e.uses ++ cells_of is_maybe_written e.uses)

-- what the body computes for the writing access number w, from 1
abbrev pub computed : Event → Terms → ℕ → Term
computed e terms w = App e.text e.names w e.values e.parameters terms

-- the effect: takes the terms, then stores at each writing access in order
abbrev pub step_of : Event → Memory → Memory
step_of e m = store_each (computed e (taken e m)) 1 (cells_of is_writing e.uses) m

-- an access of one and an access of the other have one cell, and at least one of the two writes
abbrev pub EventsTouch : Event → Event → Type 0
EventsTouch a b = (u : Use) × (v : Use) × In u a.uses × In v b.uses × (u.cell ≡ v.cell) × ((is_writing u.kind ≡ true) ⊎ (is_writing v.kind ≡ true))
