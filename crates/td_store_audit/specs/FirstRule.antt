-- Which of the rules is the first that isn't kept.
use Rattle.std.specs.Prelude.{◌≡◌, ◌⊎◌, ◌<◌, Option, Some, None}
use Rattle.td_table_model.specs.declared.rule.Rule.{Rule}
use Rattle.td_table_model.specs.Rules.{rule_no}

-- the rule comes before another; each does where there is none
abbrev pub IsBefore : Rule → Option Rule → Type 0
IsBefore rule None = Unit {0}
IsBefore rule (Some other) = rule_no rule < rule_no other

-- so is each rule that comes before that one
abbrev pub AreSoBefore : (Rule → Type 0) → Option Rule → Type 0
AreSoBefore P end = (rule : Rule) → IsBefore rule end → P rule

-- this is a rule before that one, and it isn't so
abbrev pub IsNotSoBefore : (Rule → Type 0) → Option Rule → Option Rule → Type 0
IsNotSoBefore P end None = ⊥
IsNotSoBefore P end (Some rule) = IsBefore rule end × ¬ P rule

-- of the rules before that one this is the first that isn't so; where each is, it is that one itself
pub record IsFirstNot (P : Rule → Type 0) (end first : Option Rule) : Type 0 where
  pub before : AreSoBefore P first
  pub broken : (first ≡ end) ⊎ IsNotSoBefore P end first
