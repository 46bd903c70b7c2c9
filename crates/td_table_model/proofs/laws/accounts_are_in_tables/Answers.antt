use Rattle.td_table_model.proofs.Looked.{account_is, are_found}
use Rattle.td_table_model.proofs.Counting.{counting_is_use}
use Rattle.td_table_model.proofs.Joining.{lines_are_use}
use Rattle.td_table_model.proofs.laws.accounts_are_in_tables.Goals as goal

pub returns-clause-account : goal.returns-clause-account
returns-clause-account c = account_is

pub returns-clause-found : goal.returns-clause-found
returns-clause-found c = are_found

pub returns-clause-in_use : goal.returns-clause-in_use
returns-clause-in_use c = counting_is_use

pub returns-clause-lines : goal.returns-clause-lines
returns-clause-lines c = lines_are_use
