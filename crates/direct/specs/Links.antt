-- What the names in a table's records stand for, looked up beforehand.
use Rattle.std.specs.Prelude.{◌≡◌, ℕ, suc, List, length, Some, None, Option, slice_index_or}
use Rattle.std.specs.List.{slice_get}
use Rattle.language.specs.Lines.{line, lines, Heads, Enters}
use Rattle.language.specs.declared.handler.Handler.{Handler}
use Rattle.language.specs.declared.instruction.Instruction.TheVariants.{Constant, Move, Difference, Request, Call, Goto, Return, Branch, Raise}
use Rattle.language.specs.declared.record.Record.{Record}
use Rattle.language.specs.declared.record.Record.TheVariants.{Routine, Block, Body}
use Rattle.direct.specs.declared.link.Link.{Link}
use Rattle.direct.specs.declared.link.Target.{Target}

-- the handler of the block that a record heads
abbrev pub own_handler_of : Record → Option Handler
own_handler_of (Routine g p q) = None
own_handler_of (Block l h) = h
own_handler_of (Body i) = None

module _ (t : List Record) where
  -- the target is the record after a heading that was found, under the handler that the heading has
  abbrev pub Opens : Option ℕ → Target → Type 0
  Opens f k = (j : ℕ) (x : Record) → f ≡ Some j → slice_get t j ≡ Some x → k ≡ record { at = suc j; handler = own_handler_of x }

  -- the target is the first instruction of the block l of routine r, under that block's handler
  pub record Leads (r l : ℕ) (k : Target) : Type 0 where
    pub at : (j : ℕ) (h : Option Handler) → Heads t r l j h → k.at ≡ suc j
    pub under : (j : ℕ) (h : Option Handler) → Heads t r l j h → k.handler ≡ h

  -- the target is the first instruction of routine g
  pub record EntersAt (g : ℕ) (k : Target) : Type 0 where
    pub at : (j p q : ℕ) → Enters t g j p q → k.at ≡ suc j

  -- the link of a record of routine r has the targets of the names that stand in it
  abbrev pub LinkedBy : ℕ → Record → Link → Type 0
  LinkedBy r (Routine g p q) k = Unit {0}
  LinkedBy r (Block l h) k = Unit {0}
  LinkedBy r (Body (Constant x i)) k = Unit {0}
  LinkedBy r (Body (Move x y)) k = Unit {0}
  LinkedBy r (Body (Difference x y z)) k = Unit {0}
  LinkedBy r (Body (Request x op y)) k = Unit {0}
  LinkedBy r (Body (Call x g n ys)) k = EntersAt g k.goes
  LinkedBy r (Body (Goto l)) k = Leads r l k.goes
  LinkedBy r (Body (Return x)) k = Unit {0}
  LinkedBy r (Body (Branch x y l m)) k = Leads r l k.goes × Leads r m k.otherwise
  LinkedBy r (Body (Raise x)) k = Unit {0}

  -- the target is that of the handler, if there is one
  abbrev pub HandledBy : ℕ → Option Handler → Target → Type 0
  HandledBy r None k = Unit {0}
  HandledBy r (Some h) k = Leads r h.label k

  abbrev pub no_link : Link
  no_link = record { goes = record { at = 0; handler = None }; otherwise = record { at = 0; handler = None }; handler = record { at = 0; handler = None } }

  -- each record has its link, at its place
  pub record Linked (ks : List Link) : Type 0 where
    pub long : length ks ≡ length t
    pub names : (i r n : ℕ) (h : Option Handler) (x : Record) → slice_get (lines t) i ≡ Some (line r n h x) → LinkedBy r x (slice_index_or ks i no_link)
    pub handlers : (i r n : ℕ) (h : Option Handler) (x : Record) → slice_get (lines t) i ≡ Some (line r n h x) → HandledBy r h (slice_index_or ks i no_link).handler
