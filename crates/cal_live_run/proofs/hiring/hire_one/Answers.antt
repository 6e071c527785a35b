use Rattle.std.proofs.Common.{◌≡◌, Bor, sym, ap, ◌∙◌, subst}
use Rattle.std.specs.Prelude.{Some, slice_get}
use Rattle.std.proofs.lemmas.List.Elements.{All-nil}
use Rattle.cal_collect.specs.declared.part.Part.{Part}
use Rattle.cal_live.specs.Sending.{AreMade}
use Rattle.cal_live.specs.declared.sending.SenderHand.{SenderHand}
use Rattle.cal_live_run.proofs.HiredSenders.{hired-to-send, nothing-done}
use Rattle.cal_mail.specs.Ends.{mailbox_of}
use Rattle.cal_run.specs.declared.numbers.Numbers.{Numbers}
use Rattle.cal_thread.specs.declared.thread.Thread.{Thread}
use Rattle.cal_live_run.proofs.hiring.hire_one.Goals as goal

-- its hand sends tables of the run's shapes
pub new-requires-2-clause-takes : goal.new-requires-2-clause-takes
new-requires-2-clause-takes g c = record {
  sender = c.args.sender;
  sender_is = c.new.ensures.0;
  shapes_are = c.requires.shapes ∙ sym c.as_slice.ensures.value;
  number_is = c.requires.sender.number_is;
  made = subst (AreMade g.S.Shapes.shapes) (sym c.requires.nothing)
      (All-nil (λ (part : Part).
      slice_get g.S.Shapes.shapes part.channel ≡ Some part.table.shape));
}

-- and has done nothing
pub new-requires-2-clause-nothing : goal.new-requires-2-clause-nothing
new-requires-2-clause-nothing g c =
    nothing-done c.new.result c.args.sender c.new.ensures.0 c.requires.nothing

pub returns-clause-hired : goal.returns-clause-hired
returns-clause-hired g c =
    let kept = c.in_ok-channels.ensures in
    let thread = c.hire-thread.ensures in
    let worker = c.new-worker.ensures in
    hired-to-send g.S.Shapes.shapes c.args.run.now (mailbox_of c.args._collector.now.collector)
    c.requires.run c.args.number c.requires.thread _ c.args.sender
    (worker.hired c.args.run.now.shared thread.thread thread.timed)
    (ap (λ (t : Thread). t.number) worker.thread ∙ thread.number)
    kept.fresh kept.ready kept.thread
    (ap (λ (b : Bor Numbers). b.now) kept.numbers)
    (ap (λ (h : SenderHand _ _). h.sender) kept.hand ∙ c.new.ensures.0)
    c.requires.sender
