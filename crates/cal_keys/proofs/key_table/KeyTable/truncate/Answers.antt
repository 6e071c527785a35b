use Rattle.std.proofs.Common.{map, take, sym, ap, ◌∙◌}
use Rattle.std.proofs.lemmas.List.{take-map}
use Rattle.cal_keys.specs.KeyTables.{keys_of}
use Rattle.cal_keys.specs.Keys.{single_key}
use Rattle.cal_keys.specs.declared.key_table.KeyTable.TheInside.{Inside}
use Rattle.cal_keys.proofs.key_table.KeyTable.truncate.Goals as goal
use Rattle.cal_keys.proofs.key_table.KeyTable.truncate.Goals.{in-Single, in-Hashed}

pub returns : goal.returns
returns c =
    let view = λ (s : Inside). keys_of s.form in
    elim c.match-self.branch [
      | in-Single w ↦
          ap view w.self-inside-is
          ∙ ap (map single_key) w.truncate.ensures
          ∙ sym (take-map single_key c.args.count _)
          ∙ ap (take c.args.count) (ap keys_of (sym w.in-Single.is) ∙ c.self.view_is)
      | in-Hashed w ↦
          ap view w.self-inside-is
          ∙ w.truncate-in-Hashed.ensures
          ∙ ap (take c.args.count) (ap keys_of (sym w.in-Hashed.is) ∙ c.self.view_is)
    ]
