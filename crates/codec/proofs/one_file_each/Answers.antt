use Rattle.codec.proofs.Files.{read_back, written_so, one_list}
use Rattle.codec.proofs.one_file_each.Goals as goal

pub returns : goal.returns
returns c = record { back = read_back; so = written_so; once = one_list }
