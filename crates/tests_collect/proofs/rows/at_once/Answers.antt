use Rattle.std.proofs.Common.{◌<◌, List, [], ◌∷◌, ◌++◌, Some, length, ap, sym, ◌∙◌, subst, arith}
use Rattle.std.specs.List.{slice_get}
use Rattle.std.proofs.lemmas.Option.{slice_get-get_or}
use Rattle.cal_mail.specs.Ends.{AreEndedOf, mailbox_of}
use Rattle.cal_table.specs.declared.shape.TableShape.{TableShape}
use Rattle.tests_collect.proofs.Ended.{fresh_one, one_ended}
use Rattle.tests_collect.proofs.rows.at_once.Goals as goal

pub join-one-requires-after_bounds : goal.join-one-requires-after_bounds
join-one-requires-after_bounds g c κs within =
    let opened = c.in_ok-senders in
    let shape : TableShape = c.index-shapes-0.result in
    let shapes : List TableShape = c.args.shapes.now in
    let one = c.requires.one in
    let below : 0 < length shapes = omega (arith, one) in (
      (
        ap (λ (l : List TableShape). slice_get l 0) c.requires.shapes
            ∙ slice_get-get_or shapes 0 shape below ∙ ap Some (sym c.index-shapes-0.is),
        (
          c.requires.few,
          fresh_one (mailbox_of opened.collector.collector) opened.senders.items c.pop.new.self.items
              c.in-Some.sender opened.ensures.senders.0 opened.ensures.senders.1 c.in-Some.ensures.items,
        ),
      ),
      opened.ensures.merged,
    )

pub finish-tables-requires-clause-ended : goal.finish-tables-requires-clause-ended
finish-tables-requires-clause-ended g c =
    let opened = c.in_ok-senders in
    let one = c.join-one.result.0.0 in
    subst (λ m. AreEndedOf m c.push.new.self.items) (sym c.join-one.ensures.second.2)
    (one_ended (mailbox_of opened.collector.collector) opened.senders.items c.pop.new.self.items
    c.in-Some.sender one c.push.new.self.items opened.ensures.senders.0 opened.ensures.senders.1
    c.in-Some.ensures.items c.join-one.ensures.first
    (c.in_ok-push.ensures.items ∙ ap (λ l. l ++ one ∷ []) c.new-ended.ensures.items))
