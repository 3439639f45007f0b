-- With which number does the program end?
use Rattle.std.specs.Prelude.{ℕ}
use Rattle.lhg_cli.specs.declared.status.Status.{Status}
use Rattle.lhg_cli.specs.declared.status.Status.TheVariants as status

-- the number of a status
abbrev pub number_of : Status → ℕ
number_of status.Done = 0
number_of status.No = 1
number_of status.Words = 2
number_of status.Text = 3
number_of status.Wide = 4
number_of status.Lists = 5
number_of status.Spent = 6
number_of status.Read = 7
number_of status.Write = 8
number_of status.Memory = 9
