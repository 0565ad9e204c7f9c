-- A run in continuation form: its configuration between two steps. What comes next (the continuation)
-- and where a raised value goes (the handler) are cells, told by their place; none is the outermost.
use Rattle.std.specs.Prelude.{ℕ, suc, cond, List, [], ◌∷◌, ◌++◌, length, take, ℤ, Some, None, Option, ◌==◌, slice_set}
use Rattle.language.specs.Runs.{value}

-- how many cells there are
abbrev pub cell_count : ℕ
cell_count = 32

-- the number of the register that is not one of the variables
abbrev pub spare : ℕ
spare = 16

-- where a raised value lands: in the catch variable, and the run goes on at the address
pub record Landing : Type 0 where
  pub catch : ℕ
  pub address : ℕ

-- what a save puts in a cell: the variable that is to have the result, the address of the rest, the
-- landing if there is a handler, the variables, and the continuation and handler of before
pub record Cell : Type 0 where
  pub result : ℕ
  pub rest : ℕ
  pub landing : Option Landing
  pub variables : List ℤ
  pub continuation : Option ℕ
  pub handler : Option ℕ

-- the program counter, the variables, register 16, the continuation, the handler, and the cells that
-- are filled, the oldest first
pub record Configuration : Type 0 where
  pub counter : ℕ
  pub variables : List ℤ
  pub register : ℤ
  pub continuation : Option ℕ
  pub handler : Option ℕ
  pub cells : List Cell

-- the value of a variable or of register 16
abbrev pub content : Configuration → ℕ → ℤ
content s x = cond (x == spare) s.register (value s.variables x)

-- the configuration at another address, with these variables
abbrev pub moved : Configuration → ℕ → List ℤ → Configuration
moved s a vs = record { counter = a; variables = vs; register = s.register; continuation = s.continuation; handler = s.handler; cells = s.cells }

-- the configuration at the next word, with a fault's number in a variable or in register 16
abbrev pub faulted : Configuration → ℕ → ℤ → Configuration
faulted s x n = record {
  counter = suc s.counter;
  variables = cond (x == spare) s.variables (slice_set s.variables x n);
  register = cond (x == spare) n s.register;
  continuation = s.continuation;
  handler = s.handler;
  cells = s.cells;
}

-- after a save at address a comes the word that enters the routine; then, if a catch variable is
-- given, the jump to the handler; then the rest
abbrev pub rest_after_of : Option ℕ → ℕ → ℕ
rest_after_of None a = suc (suc a)
rest_after_of (Some x) a = suc (suc (suc a))

abbrev pub landing_after_of : Option ℕ → ℕ → Option Landing
landing_after_of None a = None
landing_after_of (Some x) a = Some (record { catch = x; address = suc (suc a) })

-- the cell at place i is the handler too if a catch variable is given
abbrev pub handler_after : Option ℕ → ℕ → Option ℕ → Option ℕ
handler_after None i h = h
handler_after (Some x) i h = Some i

-- what is put in the next cell, for a result that goes to x
abbrev pub filled : Configuration → ℕ → Option ℕ → Cell
filled s x c = record { result = x; rest = rest_after_of c s.counter; landing = landing_after_of c s.counter; variables = s.variables; continuation = s.continuation; handler = s.handler }

-- the configuration at the next word, the next cell filled
abbrev pub saved : Configuration → ℕ → Option ℕ → Configuration
saved s x c = record {
  counter = suc s.counter;
  variables = s.variables;
  register = s.register;
  continuation = Some (length s.cells);
  handler = handler_after c (length s.cells) s.handler;
  cells = s.cells ++ filled s x c ∷ [];
}

-- the cell c at place i is handed the value v, for its variable x, and goes on at address a: what it
-- saved comes back, and it and all cells above it are free
abbrev pub handed : Configuration → ℕ → Cell → ℕ → ℕ → ℤ → Configuration
handed s i c x a v = record { counter = a; variables = slice_set c.variables x v; register = s.register; continuation = c.continuation; handler = c.handler; cells = take i s.cells }
