use Rattle.std.proofs.Common.{refl, sym, subst}
use Rattle.cal_engine.specs.Rows.{IsOfGroups}
use Rattle.cal_profile.proofs.TableAnswers.{channel_aggregated}
use Rattle.cal_ql.specs.Valid.{IsValidQuery}
use Rattle.cal_records.proofs.QueryLemmas.{valid-query}
use Rattle.cal_records.proofs.query.channel_query.Goals as goal

pub returns-clause-valid : goal.returns-clause-valid
returns-clause-valid c = subst IsValidQuery (sym c.in_ok-query.ensures)
    (valid-query c.args.channel.now)

pub returns-clause-groups : goal.returns-clause-groups
returns-clause-groups c = subst IsOfGroups (sym c.in_ok-query.ensures)
    (record { aggregated = channel_aggregated c.args.channel.now; unordered = refl })
