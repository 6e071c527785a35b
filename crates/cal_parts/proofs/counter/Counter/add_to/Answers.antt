use Rattle.std.proofs.Common.{◌≡◌, ap, ◌∙◌}
use Rattle.std.specs.List.{filter_map}
use Rattle.std.proofs.lemmas.Result.{on_ok_weaker}
use Rattle.cal_filter.proofs.ReadyLemmas.{on_ok}
use Rattle.cal_value.specs.Flat.{flat}
use Rattle.cal_parts.specs.Counters.{CountsFor, IsReadyFound, number_at, record_of, sought_in}
use Rattle.cal_parts.specs.PartLists.{merged_at}
use Rattle.cal_parts.specs.Parts.{part_over}
use Rattle.cal_parts.specs.Readings.{part_of}
use Rattle.cal_parts.specs.declared.reading.Reading.{Reading}
use Rattle.cal_parts.proofs.Counting.{part_numbers, part_weight}
use Rattle.cal_parts.proofs.counter.Counter.add_to.Goals as goal

pub returns-in-Count-clause-added : goal.returns-in-Count-clause-added
returns-in-Count-clause-added c =
    let found = c.args.found.now in
    on_ok_weaker c.add.result
    (λ is r counts ready. is
    ∙ ap (merged_at c.args.parts.now c.args.place)
    (part_weight (sought_in found) r c.args.self.now (record_of found) c.weight-number.result counts c.in-Count.is
    (rw c.deref.ensures.value at (c.weight-number.ensures ready))))
    c.add.ensures.added

pub returns-in_default-clause-added : goal.returns-in_default-clause-added
returns-in_default-clause-added c =
    let counter = c.args.self.now in
    let found = c.args.found.now in
    let old = c.args.parts.now in
    let n = c.args.place in
    let new = c.add_numbers.new.parts in
    let numbers = filter_map (number_at (sought_in found) (flat (record_of found))) counter.places.items in
    let added = rw c.deref-in_default.ensures.value at c.add_numbers.ensures.added in
    on_ok (IsReadyFound found → new ≡ merged_at old n (part_over counter.kernel numbers))
    ((r : Reading) → CountsFor (sought_in found) r counter → IsReadyFound found → new ≡ merged_at old n (part_of r (record_of found)))
    c.add_numbers.result
    (λ is r counts ready. is ready
    ∙ ap (merged_at old n) (part_numbers (sought_in found) r counter (record_of found) counts c.in_default.not-Count))
    added
