-- Byte by byte.
use Rattle.log_model.proofs.BigEndian.{number_in-from_be_bytes_4, number_in-from_be_bytes_8, number_in-from_be_bytes_16}
use Rattle.log_model.proofs.laws.numbers_are_big_endian.Goals as goal

pub returns-clause-four : goal.returns-clause-four
returns-clause-four c = number_in-from_be_bytes_4

pub returns-clause-eight : goal.returns-clause-eight
returns-clause-eight c = number_in-from_be_bytes_8

pub returns-clause-sixteen : goal.returns-clause-sixteen
returns-clause-sixteen c = number_in-from_be_bytes_16
