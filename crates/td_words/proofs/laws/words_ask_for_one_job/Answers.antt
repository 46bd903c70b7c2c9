use Rattle.td_words.proofs.OneJob.{one_job}
use Rattle.td_words.proofs.laws.words_ask_for_one_job.Goals as goal

pub returns : goal.returns
returns c = one_job
