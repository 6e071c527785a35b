-- Items that are found by their names (private).
use Rattle.std.specs.Prelude.{◌≡◌, ℕ, List, map, string_bytes}
use Rattle.cal_value.specs.declared.attribute.Attribute.{Attribute}
use Rattle.cal_value.specs.declared.attribute.Entry.{Entry}
use Rattle.cal_script.specs.declared.script.Channel.{Channel}
use Rattle.cal_script.specs.declared.register.Register.{Register}

-- the names are those of the items, in their order
abbrev pub IsRegister : {T : Type 0} → (T → List ℕ) → Register T → Type 0
IsRegister name_of register = map string_bytes register.names.keys ≡ map name_of register.items

-- what a script declares, by its names
abbrev pub IsAttributes : Register Attribute → Type 0
IsAttributes register = IsRegister (λ attribute. attribute.name) register

abbrev pub IsChannels : Register Channel → Type 0
IsChannels register = IsRegister (λ channel. channel.name) register

abbrev pub IsGlobals : Register Entry → Type 0
IsGlobals register = IsRegister (λ entry. entry.attr.name) register

abbrev pub IsNames : Register (List ℕ) → Type 0
IsNames register = IsRegister (λ name. name) register
