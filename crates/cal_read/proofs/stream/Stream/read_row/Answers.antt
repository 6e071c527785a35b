use Rattle.std.proofs.Common.{[], ◌∷◌, ◌++◌, refl, subst}
use Rattle.cal_context.specs.Taking.{TakesMore}
use Rattle.cal_read.proofs.StreamLemmas.{row_made}
use Rattle.cal_read.proofs.stream.Stream.read_row.Goals as goal

pub returns : goal.returns
returns g c = record {
  read = λ s stands.
      let it = c.in_ok-read_record.ensures s.nodes stands.nodes in (
        record s { rows = s.rows ++ it.0 ∷ [] },
        row_made s c.args.fields.now it.0 it.1,
        record {
          stands = record { nodes = stands.nodes; within = stands.within; globals = stands.globals };
          taken = record {
            more = it.0 ∷ [];
            rows = refl;
            taken = subst (λ r. TakesMore (g.T.Taker.has_taken c.args.taker.now c.args.context.now) (g.T.Taker.has_taken c.take.new.self c.args.context.now) (r ∷ [])) it.2.1 c.in_ok-take.ensures.taken;
          };
        },
      );
  about = c.in_ok-take.ensures.about;
}
