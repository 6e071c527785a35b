use Rattle.std.proofs.Common.{[], ◌∷◌, ◌++◌, refl, ◌∙◌, subst}
use Rattle.cal_context.specs.Taking.{TakesMore}
use Rattle.cal_read.specs.declared.sort.Sort.TheVariants.{OfRow}
use Rattle.cal_read.proofs.StreamLemmas.{fields_sorted, list_made, row_made}
use Rattle.cal_read.proofs.stream.Stream.read_text.Goals as goal

pub take-requires : goal.take-requires
take-requires g c = (c.in-Ok.ensures c.requires.0.nodes c.requires.1.nodes).within

pub returns-in_ok-take-in-Ok-clause-read : goal.returns-in_ok-take-in-Ok-clause-read
returns-in_ok-take-in-Ok-clause-read g c = λ s stands.
    let it = c.in-Ok.ensures s.nodes stands.nodes in (
      record s { rows = s.rows ++ it.row ∷ [] },
      list_made s c.args.line.now it.fields it.are ∙ fields_sorted s it.fields OfRow it.once it.sorted ∙ row_made s it.fields it.row it.read,
      record {
        stands = record { nodes = stands.nodes; within = stands.within; globals = stands.globals };
        taken = record {
          more = it.row ∷ [];
          rows = refl;
          taken = subst (λ r. TakesMore (g.T.Taker.has_taken c.args.taker.now c.args.context.now) (g.T.Taker.has_taken c.take.new.self c.args.context.now) (r ∷ [])) it.means c.in_ok-take-in-Ok.ensures.taken;
        };
      },
    )
