use Rattle.td_join.proofs.Contents.{sound_contents_join}
use Rattle.td_join.proofs.laws.sound_contents_join.Goals as goal

pub returns : goal.returns
returns c = sound_contents_join
