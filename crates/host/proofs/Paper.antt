-- What a host in C gets, by literals.
use mathlib.Core.Path.{refl}
use Rattle.host.specs.Paper.{PaperHost}

pub paper_host : PaperHost
paper_host = record {
  refusal = λ X m p. refl;
  success = λ x. refl;
  batch_refusal = λ i m p. refl;
  batch_success = refl;
  added = refl;
  held = refl;
  not_said = λ m p. refl;
  written = λ xs. refl;
  not_written = λ m p. refl;
  counted = λ n. refl;
  not_counted = λ m p. refl;
  stepped = λ s. refl;
  not_stepped = λ m p. refl;
  item = λ i m p. refl;
  no_item = refl;
}
