use Rattle.td_table_model.specs.Gathering.{content_of}
use Rattle.td_table_model.proofs.Ruled.{are_of_content}
use Rattle.td_table_model.proofs.RuledSound.{content_is_sound}
use Rattle.td_table_model.proofs.KeepingRules.{keep_rules}
use Rattle.td_table_model.proofs.laws.rules_mean_sound_content.Goals as goal

pub returns-clause-of_content : goal.returns-clause-of_content
returns-clause-of_content c = are_of_content

pub returns-clause-sound : goal.returns-clause-sound
returns-clause-sound c = content_is_sound

pub returns-clause-exactly : goal.returns-clause-exactly
returns-clause-exactly c = λ t. (λ keep. (content_of t, content_is_sound t keep, are_of_content t keep), λ some. keep_rules t some.0 some.1 some.2)
