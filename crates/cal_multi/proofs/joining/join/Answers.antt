use Rattle.std.proofs.Common.{◌≡◌, Option, IfSome, sym, ◌∙◌, subst}
use Rattle.cal_query.specs.declared.seeing.Seen.{Seen}
use Rattle.cal_engine.specs.declared.snapshot_fold.SnapshotFold.{SnapshotFold}
use Rattle.cal_multi.specs.Shares.{HaveTaken}
use Rattle.cal_multi.proofs.joining.join.Goals as goal

pub returns : goal.returns
returns c =
    let fold = c.args.fold in
    let before = c.in-Some.joined in
    let same : fold.taker.query ≡ before.taker.query =
    subst (λ (o : Option (Seen SnapshotFold)).
    IfSome o (λ (b : Seen SnapshotFold). fold.taker.query ≡ b.taker.query)) c.in-Some.is
    c.requires in
    record {
      about = c.in-Ok.ensures.query ∙ sym same;
      taken = λ rows own had has. c.in-Ok.ensures.merged rows own
          (subst (λ (o : Option (Seen SnapshotFold)). HaveTaken o rows) c.in-Some.is had) has;
    }
