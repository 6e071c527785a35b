use Rattle.std.proofs.Common.{◌≡◌, List, ap, ◌∙◌}
use Rattle.std.specs.Prelude.{flat_map}
use Rattle.std.specs.List.{enumerate_from}
use Rattle.cal_records.specs.Records.{globals_of}
use Rattle.cal_script.specs.declared.script.Channel.{Channel}
use Rattle.cal_steps.proofs.RowLemmas.{records-whole}
use Rattle.cal_steps.proofs.world.World.records.Goals as goal
use Rattle.cal_steps.specs.Rows.{records_in, rows_at}

pub expand-requires : goal.expand-requires
expand-requires c = c.in_ok-globals.ensures.means.within

pub returns-clause-rows : goal.returns-clause-rows
returns-clause-rows c =
    let rows = c.in_ok-rows.ensures
    ∙ ap (λ (cs : List Channel). flat_map (rows_at c.args.self.now) (enumerate_from 0 cs))
    c.as_slice.ensures in
    let globals = c.in_ok-globals-2.ensures ∙ c.in_ok-globals.ensures.means.means
    ∙ ap globals_of c.as_slice-2.ensures in
    λ i. record { rows = rows i; globals = globals i }

pub returns-clause-whole : goal.returns-clause-whole
returns-clause-whole c = λ journal ends.
    let rows = c.in_ok-rows.ensures
    ∙ ap (λ (cs : List Channel). flat_map (rows_at c.args.self.now) (enumerate_from 0 cs))
    c.as_slice.ensures in
    let globals = c.in_ok-globals-2.ensures ∙ c.in_ok-globals.ensures.means.means
    ∙ ap globals_of c.as_slice-2.ensures in
    let is : record { rows = c.in_ok-rows.rows; globals = c.in_ok-globals-2.globals }
    ≡ records_in c.args.script.now c.args.self.now =
    λ i. record { rows = rows i; globals = globals i } in
    is ∙ records-whole c.args.script.now journal c.args.self.now ends
