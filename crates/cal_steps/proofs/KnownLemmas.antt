-- The board behind the operation that a node is for is known.
use Rattle.std.proofs.Common.{◌≡◌, ℕ, ◌+◌, ◌<◌, Bool, true, false, List, [], ◌∷◌, fold, length, take, get_or}
use Rattle.std.proofs.Common.{refl, arith, if◌then◌else◌}
use Rattle.std.specs.Prelude.{Option, Some, None}
use Rattle.std.specs.List.{All}
use Rattle.std.proofs.lemmas.List.Elements.{All-nil, All-take}
use Rattle.cal_board.specs.Blackboard.{Blackboard, nothing_open}
use Rattle.cal_board.specs.PathBoards.{AreKnown}
use Rattle.cal_board.specs.declared.opened.Slot.{Slot}
use Rattle.cal_run.proofs.LawLemmas.{all-rest}
use Rattle.cal_run.proofs.LineLemmas.{line-places}
use Rattle.cal_run.specs.Adding.{MayHavePlaces}
use Rattle.cal_run.specs.Held.{IsKnown}
use Rattle.cal_run.specs.History.{board_placed, process_board}
use Rattle.cal_run.specs.Lines.{is_process_line, operation_of}
use Rattle.cal_run.specs.Paths.{own_operation}
use Rattle.cal_script.specs.Valid.{IsRunnable}
use Rattle.cal_script.specs.declared.journal.Placed.{Placed}
use Rattle.cal_script.specs.declared.script.Line.{Line}
use Rattle.cal_script.specs.declared.script.Script.{Script}
use Rattle.cal_steps.proofs.EndingLemmas.{process-known}
use Rattle.cal_steps.proofs.ReadyLemmas.{IsRight, known-op}
use Rattle.cal_steps.specs.NodePlaces.{board_of_lines, node_board}
use Rattle.cal_value.specs.declared.variant.Variant.{Variant}
use Rattle.cal_world.specs.declared.turn.Turn.{Turn}

module _ (script : Script) where
  -- the places of a line's own operation are those of the line
  pub own-places : (l : Line) → IsRight script l → MayHavePlaces script (own_operation script l)
  own-places l right = by (is_process_line script l)
    where
      by : (b : Bool) → MayHavePlaces script (if b then None else operation_of l)
      by true = tt
      by false = line-places script l right

  known-lines-own : (ls : List Line) (b : Blackboard Variant) → All (IsRight script) ls
      → IsKnown script b
      → IsKnown script (fold (λ c l. board_placed script c (own_operation script l)) b ls)
  known-lines-own [] b all known = known
  known-lines-own (l ∷ ls) b all known =
      known-lines-own ls (board_placed script b (own_operation script l))
      (all-rest (IsRight script) l ls all)
      (known-op script b (own_operation script l) (own-places l (all 0 l (omega arith))) known)

  pub node-known : IsRunnable script → (history : List Placed) (x : Turn)
      → x.thread < length script.threads → (place : Option ℕ)
      → IsKnown script (node_board script history x place)
  node-known runnable history x inside None = by (is_process_line script x.line)
    where
      by : (b : Bool) → IsKnown script (if b then process_board script history x.note.seen
          else board_of_lines script (take x.number (get_or script.threads x.thread [])))
      by true = process-known script runnable history x.note.seen
      by false = known-lines-own (take x.number (get_or script.threads x.thread [])) nothing_open
          (All-take (IsRight script) x.number (get_or script.threads x.thread [])
          (runnable.places x.thread [] inside))
          (record {
            references = All-nil (λ (s : Slot Variant). AreKnown script.attributes s.opened);
            as_values = All-nil (λ (s : Slot Variant). AreKnown script.attributes s.opened);
          })
  node-known runnable history x inside (Some place) =
      process-known script runnable history (place + 1)
