use Rattle.std.proofs.Common.{◌≡◌, ◌++◌, List, ap, length, map, subst, sym, take, ◌∙◌}
use Rattle.cal_context.specs.declared.numbers.NodeNumber.{NodeNumber}
use Rattle.cal_context.specs.declared.snapshot.Immediate.{Immediate}
use Rattle.cal_write.specs.Lines.{record_line}
use Rattle.cal_write.specs.SnapshotNeeds.{NeedsNodes, NeedsImmediates}
use Rattle.cal_write.proofs.RecordLemmas.{record-written}
use Rattle.cal_write.proofs.writer.Writer.write.Goals as goal

pub returns-clause-written : goal.returns-clause-written
returns-clause-written c =
    let context = c.args.context.now in
    let refs = c.need_nodes.new.ids.items in
    let count = length c.args.snapshot.now.imms.items in
    let long : c.len.result ≡ count = c.len.ensures ∙ sym c.deref-2.ensures.len ∙ ap length c.deref-2.ensures.value in
    let columns = take count c.need_immediates.new.ids.items in
    let nodes : NeedsNodes context c.args.self.now.nodes c.need_nodes.new.writer c.args.snapshot.now.nodes.items refs =
    subst (λ (l : List NodeNumber). NeedsNodes context c.args.self.now.nodes c.need_nodes.new.writer l refs) c.deref.ensures.value c.in_ok-need_nodes.ensures in
    let imms : NeedsImmediates context c.need_nodes.new.writer c.need_immediates.new.writer c.args.snapshot.now.imms.items columns =
    subst (λ (l : List Immediate). NeedsImmediates context c.need_nodes.new.writer c.need_immediates.new.writer l (take (length l) c.need_immediates.new.ids.items)) c.deref-2.ensures.value c.in_ok-need_immediates.ensures.needs in
    let text : c.write_record.new.out ≡ c.need_immediates.new.writer.stream.lines.text ++ record_line c.args.sort.now refs columns (map (λ (i : Immediate). i.value) c.args.snapshot.now.imms.items) =
    c.in_ok-write_record.ensures
    ∙ (λ j. c.need_immediates.new.writer.stream.lines.text ++ record_line c.args.sort.now (c.deref-3.ensures.value j) (take (long j) (c.deref-4.ensures.value j)) (map (λ (i : Immediate). i.value) (c.deref-5.ensures.value j))) in
    record-written context c.args.self.now.nodes c.need_nodes.new.writer c.need_immediates.new.writer c.args.sort.now c.args.snapshot.now refs columns c.write_record.new.out nodes imms text
