use Rattle.std.proofs.Common.{◌≡◌, length, map, sym, ap, ◌∙◌, arith}
use Rattle.std.proofs.lemmas.Result.{on_ok_weaker}
use Rattle.std.specs.Simd.{first_chunks}
use Rattle.cal_context.specs.Snapshots.{meaning}
use Rattle.cal_filter.specs.Known.{sought}
use Rattle.cal_filter.proofs.Zips.{zip_length}
use Rattle.cal_parts.specs.Counters.{CountsFor}
use Rattle.cal_parts.specs.PartLists.{put_parts}
use Rattle.cal_parts.specs.Readings.{parts_of}
use Rattle.cal_parts.proofs.Adding.{parts_long}
use Rattle.cal_parts.proofs.PartLists.{chunk_added}
use Rattle.cal_parts.proofs.PartTables.{length-first_chunks, number_there, places_within}
use Rattle.cal_parts.proofs.part_table.PartTable.add_at.Goals as goal

pub overflow_mul-from : goal.overflow_mul-from
overflow_mul-from c =
    let s = c.self.inside in
    omega (arith, places_within s.width s.count c.args.number s.parts _ c.self.invariant c.self.view_is c.requires.number)

pub add_record-requires-clause-places : goal.add_record-requires-clause-places
add_record-requires-clause-places c =
    let s = c.self.inside in
    omega (arith, c.len-width.ensures, c.if-width-self.false, places_within s.width s.count c.args.number s.parts _ c.self.invariant c.self.view_is c.requires.number)

pub returns-clause-ok : goal.returns-clause-ok
returns-clause-ok c =
    let s = c.self.inside in
    let t = c.args.context.now in
    let n = c.args.number in
    on_ok_weaker c.add_record.result
    (λ added rs ready.
    let fresh = parts_of rs (meaning t c.args.snapshot.now) in
    let wide : length fresh ≡ s.width = parts_long rs (meaning t c.args.snapshot.now) ∙ zip_length (CountsFor (map sought c.args.counters.now.seekers.items)) rs c.args.counters.now.counters.items ready.counts ∙ omega (arith, c.len-width.ensures, c.if-width-self.false) in
    ap (first_chunks s.width s.count) (added rs ready)
    ∙ chunk_added s.width s.count n s.parts fresh (number_there s.width s.count n s.parts _ c.self.view_is c.requires.number) c.self.invariant wide
    ∙ ap (λ ps. put_parts ps n fresh) c.self.view_is)
    c.add_record.ensures.added

pub returns-clause-long : goal.returns-clause-long
returns-clause-long c =
    let s = c.self.inside in
    length-first_chunks s.width s.count _ ∙ sym (length-first_chunks s.width s.count s.parts) ∙ ap length c.self.view_is
