use Rattle.std.proofs.Common.{◌≡◌, ◌<◌, [], ◌∷◌, ◌++◌, length, get_or, take, refl, ◌∙◌, subst, arith}
use Rattle.std.proofs.lemmas.Str.{IsCharBoundary-before_ascii, IsUtf8-take}
use Rattle.cal_context.specs.Taking.{TakesMore}
use Rattle.cal_read.specs.declared.sort.Sort.TheVariants.{OfRow}
use Rattle.cal_read.proofs.StreamLemmas.{fields_sorted, fields_step, row_made}
use Rattle.cal_read.proofs.stream.Stream.read_front.Goals as goal

pub take-requires : goal.take-requires
take-requires g c = (c.in-Ok.ensures.row c.requires.0.nodes c.requires.1.nodes).within

pub returns : goal.returns
returns g c =
    let text = c.args.text.now in
    let end = c.in-Ok.end in
    let at = c.in-Ok.ensures.line in
    let within : end < length text = omega (arith, at.within, c.if-end-text.false) in
    let newline : get_or text end 0 ≡ 10 = rw c.as_bytes.ensures.value at c.if-as_bytes-end-ne10.false in
    let boundary = IsCharBoundary-before_ascii text end within (omega (arith, newline)) in
    record {
      read = record {
        within = within;
        newline = newline;
        line = at.line;
        read = λ s stands.
            let it = c.in-Ok.ensures.row s.nodes stands.nodes in (
              record s { rows = s.rows ++ it.row ∷ [] },
              fields_step s (take end text) it.fields (IsUtf8-take text end c.utf8.text boundary) at.some it.are ∙ fields_sorted s it.fields OfRow it.once it.sorted ∙ row_made s it.fields it.row it.read,
              record {
                stands = record { nodes = stands.nodes; within = stands.within; globals = stands.globals };
                taken = record {
                  more = it.row ∷ [];
                  rows = refl;
                  taken = subst (λ r. TakesMore (g.T.Taker.has_taken c.args.taker.now c.args.context.now) (g.T.Taker.has_taken c.take.new.self c.args.context.now) (r ∷ [])) it.means c.in_ok-take.ensures.taken;
                };
              },
            );
      };
      about = c.in_ok-take.ensures.about;
    }
