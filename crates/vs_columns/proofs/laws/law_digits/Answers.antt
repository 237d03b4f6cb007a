use Rattle.vs_columns.proofs.DigitLemmas.{length_padded, padded_digits, padded_value}
use Rattle.vs_columns.proofs.laws.law_digits.Goals as goal

pub returns-clause-count : goal.returns-clause-count
returns-clause-count c = length_padded

pub returns-clause-digits : goal.returns-clause-digits
returns-clause-digits c = padded_digits

pub returns-clause-number : goal.returns-clause-number
returns-clause-number c = padded_value
