use Rattle.std.proofs.Common.{List, map, ◌∙◌, subst}
use Rattle.std.proofs.lemmas.Result.{on_ok_weaker}
use Rattle.cal_jsonfmt.specs.Choosing.{members_of, value_at}
use Rattle.cal_jsonfmt.specs.Json.{Member, object_json}
use Rattle.cal_jsonfmt.specs.Writing.{WritesValue}
use Rattle.cal_jsonfmt.proofs.objects.Objects.write.Goals as goal

pub returns-clause-written : goal.returns-clause-written
returns-clause-written c =
    on_ok_weaker c.write_object.result
    (λ writes row shows.
    subst (λ (ms : List Member). WritesValue c.args.writer.now c.write_object.new.writer (object_json ms))
    ((λ j. members_of (c.deref.ensures.value j) (map (value_at c.args.columns.now row) (c.deref-2.ensures.value j))) ∙ c.choose.ensures.members row shows)
    (writes row shows))
    c.write_object.ensures
