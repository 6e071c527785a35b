use Rattle.std.proofs.Common.{◌≡◌, ℕ, List, [], map, sym, ap, ◌∙◌, subst}
use Rattle.cal_mail.specs.Ends.{received_by}
use Rattle.cal_mail.specs.declared.mail.Received.{Received}
use Rattle.cal_table.specs.Tables.{TableValue, empty_table}
use Rattle.cal_table.specs.declared.shape.TableShape.{TableShape}
use Rattle.cal_collect.specs.Collecting.{AreMerged}
use Rattle.cal_collect.specs.declared.part.Part.{Part}
use Rattle.cal_collect.proofs.Steps.{opened}
use Rattle.cal_collect.proofs.open.open_parts.Goals as goal

pub returns-clause-merged : goal.returns-clause-merged
returns-clause-merged g c =
    let shapes : List TableShape = g.S.Shapes.shapes in
    let mail = c.in_ok-all.ensures.collector in
    let tables : c.in_ok-tables.tables.items ≡ map empty_table shapes =
    c.in_ok-tables.ensures ∙ ap (map empty_table) (sym c.requires.shapes) in
    subst (λ (n : ℕ). AreMerged shapes n (received_by c.in_ok-all.collector) c.in_ok-tables.tables.items) (sym mail.0)
    (subst (λ (received : List (Received Part)). AreMerged shapes c.args.senders received c.in_ok-tables.tables.items) (sym mail.1)
    (subst (λ (ts : List TableValue). AreMerged shapes c.args.senders [] ts) (sym tables)
    (opened shapes c.args.senders c.requires.few)))
