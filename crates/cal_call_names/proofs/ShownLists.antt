-- What is answered where a list was shown.
use Rattle.std.proofs.Common.{◌≡◌, ◌<◌, ℕ, List, Some, None, Ok}
use Rattle.cal_base.specs.Change.{Change}
use Rattle.cal_call.specs.Causes.{ReadsInput}
use Rattle.cal_call.specs.Ends.{Shows}
use Rattle.cal_call.specs.declared.fault.Fault as faults
use Rattle.cal_call.specs.declared.fault.Fault.TheVariants as fault
use Rattle.cal_naming.specs.declared.reply.NameReply.{NameReply}
use Rattle.cal_call_names.specs.Answers.{Answers, Makes, Writes}
use Rattle.cal_call_names.specs.Listing.{refused_lines}

module _ (input output : Change) (replies : List (List NameReply)) (text : List ℕ)
    (reads : ReadsInput input (λ bytes. Makes bytes text replies)) where
  -- the text was written whole
  written : Shows text output None → Writes input output replies
  written shown = (reads.0, reads.1, (text, reads.2, shown))

  -- no declaration was refused
  pub shown_whole : refused_lines replies ≡ 0 → Shows text output None
      → Answers (Ok tt) input output replies None
  shown_whole none shown = (written shown, none)

  -- so many were
  pub shown_refused : (lines : ℕ) → lines ≡ refused_lines replies → 0 < lines
      → Shows text output None
      → Answers (Ok tt) input output replies (Some (fault.LinesRefused lines))
  shown_refused lines counted some shown = (written shown, counted, some)

  -- the output failed
  pub shown_failed : (f : faults.Fault) → Shows text output (Some f)
      → Answers (Ok tt) input output replies (Some f)
  shown_failed f shown = rw shown.0 (shown.1, (reads.0, reads.1, (text, reads.2, shown.2)))
