-- What the lines of a runnable script may open, and what boards have so.
use Rattle.std.proofs.Common.{◌≡◌, ℕ, ◌<◌, ◌≤◌, Bool, true, false, not, List, [], ◌∷◌, length}
use Rattle.std.proofs.Common.{fold, take, refl, sym, ap, subst, ◌∙◌, arith, All, get_or}
use Rattle.std.specs.Prelude.{Option, Some, None, option_and_then, slice_get, slice_index_or}
use Rattle.std.specs.Prelude.{if◌then◌else◌}
use Rattle.std.specs.List.{AllByRecursion}
use Rattle.std.proofs.lemmas.List.Elements.{All-head, All-tail, recursion_from_All}
use Rattle.std.proofs.lemmas.Option.{get_or_from_slice_get, slice_get_within}
use Rattle.cal_board.specs.Blackboard.{Blackboard, nothing_open}
use Rattle.cal_board.specs.declared.opened.Opened.{Opened}
use Rattle.cal_context.specs.Tree.{no_attribute, no_value}
use Rattle.cal_run.specs.History.{board_placed, board_with, placed_operation, process_board}
use Rattle.cal_run.specs.Lines.{attr_ref, attribute_of, line_at, operation_of, value_of}
use Rattle.cal_run.specs.Snapshots.{is_end}
use Rattle.cal_run.specs.declared.operation.Operation.{Operation}
use Rattle.cal_run.proofs.HeldLemmas.{line_at-placed}
use Rattle.cal_script.specs.Parts.{is_allowed}
use Rattle.cal_script.specs.Valid.{IsOpening, IsPlaced, IsRunnable}
use Rattle.cal_script.specs.declared.journal.Placed.{Placed}
use Rattle.cal_script.specs.declared.script.Line as lines
use Rattle.cal_script.specs.declared.script.Line.TheVariants as line
use Rattle.cal_script.specs.declared.script.Script.{Script}
use Rattle.cal_traces.proofs.Boards.{AreOn, MayOpen, board_after_on, nothing_on}
use Rattle.cal_value.specs.Props.{is_as_value, is_reference}
use Rattle.cal_value.specs.Values.{kind_of}
use Rattle.cal_value.specs.declared.attribute.Attribute.{Attribute}
use Rattle.cal_value.specs.declared.variant.Variant.{Variant}
use Rattle.cal_words.specs.declared.op.OpCode.TheVariants as code

-- a value of an attribute's kind that a script may have
pub record Fits (a : Attribute) (v : Variant) : Type 0 where
  pub kind : kind_of v ≡ a.kind
  pub allowed : is_allowed v ≡ true

module _ (script : Script) where
  -- an open value of a reference attribute of the script, and of an as-value one
  pub record IsReference (o : Opened Variant) : Type 0 where
    pub within : o.attribute < length script.attributes
    pub reference : is_reference (attribute_of script o.attribute).props ≡ true
    pub fits : Fits (attribute_of script o.attribute) o.value

  pub record IsValue (o : Opened Variant) : Type 0 where
    pub within : o.attribute < length script.attributes
    pub value : is_as_value (attribute_of script o.attribute).props ≡ true
    pub fits : Fits (attribute_of script o.attribute) o.value

  abbrev pub AreOpen : Blackboard Variant → Type 0
  AreOpen b = AreOn IsReference IsValue b

  -- an operation on a declared attribute, which opens what may be opened
  pub record Operates (op : Operation) : Type 0 where
    pub within : op.attr < length script.attributes
    pub fits : is_end op.code ≡ false → Fits (attribute_of script op.attr) (value_of script op)

  opening : (attr value : ℕ) → IsOpening script.attributes script.values attr value
      → Fits (attribute_of script attr) (slice_index_or script.values value no_value)
  opening attr value is =
      let attribute = get_or_from_slice_get script.attributes attr is.attribute no_attribute
      is.declared in
      let opened = get_or_from_slice_get script.values value is.opened no_value is.kept in
      record {
        kind = ap kind_of opened ∙ is.said.kind ∙ ap (λ (a : Attribute). a.kind) (sym attribute);
        allowed = ap is_allowed opened ∙ is.said.allowed;
      }

  -- the operation of a line, if it has one
  abbrev pub MayOperate : Option Operation → Type 0
  MayOperate None = Unit {0}
  MayOperate (Some op) = Operates op

  pub line_operates : (l : lines.Line)
      → IsPlaced script.attributes script.channels script.values l → MayOperate (operation_of l)
  line_operates (line.Begin a v) is = record {
    within = slice_get_within script.attributes a is.attribute is.declared;
    fits = λ opens. opening a v is;
  }
  line_operates (line.Set a v) is = record {
    within = slice_get_within script.attributes a is.attribute is.declared;
    fits = λ opens. opening a v is;
  }
  line_operates (line.End a) is = record { within = is; fits = λ e. absurd cc }
  line_operates line.Snapshot is = tt
  line_operates (line.Flush c) is = tt
  line_operates (line.Tick n) is = tt

  -- ---- boards

  may_open : (op : Operation) → Operates op → is_end op.code ≡ false
      → MayOpen IsReference IsValue (attr_ref script op.attr) (value_of script op)
  may_open op operates opens = record {
    reference = λ e. record {
      within = operates.within;
      reference = ap not e;
      fits = operates.fits opens;
    };
    value = λ e. record { within = operates.within; value = e; fits = operates.fits opens };
  }

  with_open : (b : Blackboard Variant) → AreOpen b → (op : Operation) → Operates op
      → AreOpen (board_with script b op)
  with_open b on op operates = board_after_on IsReference IsValue b on (attr_ref script op.attr)
      op.code (value_of script op) (may_open op operates)

  pub placed_open : (b : Blackboard Variant) → AreOpen b → (found : Option Operation)
      → MayOperate found → AreOpen (board_placed script b found)
  placed_open b on None operates = on
  placed_open b on (Some op) operates = with_open b on op operates

  module _ (runnable : IsRunnable script) where
    -- what a history places are operations of lines
    placed_operates : (p : Placed) → MayOperate (placed_operation script p)
    placed_operates p = by (line_at script p.thread p.line)
        (λ l is. line_at-placed script p.thread p.line l runnable is)
      where
        by : (found : Option lines.Line)
            → ((l : lines.Line) → found ≡ Some l
            → IsPlaced script.attributes script.channels script.values l)
            → MayOperate (option_and_then operation_of found)
        by None placed = tt
        by (Some l) placed = line_operates l (placed l refl)

    history_open : (history : List Placed) (b : Blackboard Variant) → AreOpen b
        → AreOpen (fold (λ b p. board_placed script b (placed_operation script p)) b history)
    history_open [] b on = on
    history_open (p ∷ history) b on = history_open history
        (board_placed script b (placed_operation script p))
        (placed_open b on (placed_operation script p) (placed_operates p))

    pub process_open : (history : List Placed) (count : ℕ)
        → AreOpen (process_board script history count)
    process_open history count =
        history_open (take count history) nothing_open (nothing_on IsReference IsValue)
