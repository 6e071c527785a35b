-- Lines that are shown as they are noted.
use Rattle.std.proofs.Common.{◌≡◌, ℕ, ◌+◌, ◌-◌, Bool, true, false, if◌then◌else◌}
use Rattle.std.proofs.Common.{List, [], ◌∷◌, ◌++◌, sym, ap, ◌∙◌, arith}
use Rattle.std.specs.Prelude.{Option}
use Rattle.std.proofs.lemmas.List.{append-nil, map-append}
use Rattle.cal_process.specs.Operations.{history_of, placed_as}
use Rattle.cal_process.specs.declared.common.Common.{Common}
use Rattle.cal_replay.specs.Channels.{IsShownAs}
use Rattle.cal_replay.specs.Showing.{OnlyReads}
use Rattle.cal_replay.specs.declared.showing.ShownLine.{ShownLine}
use Rattle.cal_run.specs.Lines.{is_process_line}
use Rattle.cal_run.specs.Steps.{ThreadState, found_reply, is_accepted, reading_of}
use Rattle.cal_script.specs.declared.journal.LineNote.{LineNote}
use Rattle.cal_script.specs.declared.journal.Placed.{Placed}
use Rattle.cal_script.specs.declared.journal.Reply.{Reply}
use Rattle.cal_thread.specs.Lines.{MeetsOwn, MeetsShared}
use Rattle.cal_thread.specs.Threads.{HasState}
use Rattle.cal_thread.specs.declared.looking.Met.{Met}
use Rattle.cal_thread.specs.declared.thread.Thread.{Thread}
use Rattle.cal_words.specs.declared.op.OpRec.{OpRec}

module _ (common : Common) (old mid new : Thread) (shown : ShownLine) (h : List OpRec)
    (state : ThreadState) (n : LineNote) (reads : OnlyReads mid new)
    (reading : shown.reading ≡ reading_of n) where
  same-seen : new.process.seen ≡ mid.process.seen
  same-seen = ap (λ (t : Thread). t.process.seen) reads.same

  -- a line that is its thread's own
  pub own-shown : (met : Met) (done : ℕ)
      (m : MeetsOwn common old mid shown.line met done h state)
      → HasState common new (h ++ m.ops) state
      → is_process_line common.script.now shown.line ≡ false → shown.accepted ≡ met.accepted
      → n.seen ≡ mid.process.seen → IsShownAs common new shown (h ++ m.ops) [] n state
  own-shown met done m has own accepted seen = record {
    has = has;
    accepted = accepted ∙ m.accepted ∙ ap is_accepted (sym (m.found n))
        ∙ ap (λ (ops : List OpRec). is_accepted (found_reply common.script.now (history_of ops)
        shown.line n state)) (sym (append-nil (h ++ m.ops)));
    seen = same-seen ∙ sym seen
        ∙ ap (λ (b : Bool). if b then n.seen - 1 else n.seen) (sym own);
    reading = reading;
  }

  -- a process line
  pub shared-shown : (op : OpRec) (reply : Option Reply)
      (m : MeetsShared common old mid shown.line op reply h state)
      → HasState common new (h ++ m.ops) state
      → is_process_line common.script.now shown.line ≡ true
      → shown.accepted ≡ is_accepted reply → n.seen ≡ mid.process.seen + 1
      → IsShownAs common new shown (h ++ m.ops) (op ∷ []) n state
  shared-shown op reply m has shared accepted seen =
      let back : mid.process.seen ≡ n.seen - 1 = omega (arith, seen) in
      record {
        has = has;
        accepted = accepted ∙ ap is_accepted (sym (m.found (history_of (op ∷ [])) n seen))
            ∙ ap (λ (ps : List Placed). is_accepted (found_reply common.script.now ps shown.line n
            state)) (sym (map-append placed_as (h ++ m.ops) (op ∷ [])));
        seen = same-seen ∙ back
            ∙ ap (λ (b : Bool). if b then n.seen - 1 else n.seen) (sym shared);
        reading = reading;
      }
