use Rattle.td_extract.proofs.Between.{sound_parts_are_sound}
use Rattle.td_extract.proofs.laws.sound_parts_are_sound.Goals as goal

pub returns : goal.returns
returns c = sound_parts_are_sound
