-- A problem with one rival, which keeps every row.
use Rattle.std.specs.Prelude.{true}
use Rattle.lptype.specs.Meaning.{Meaning, finite}

abbrev pub everything : Meaning
everything = record {
  Rival = Unit {0};
  Size = Unit {0};
  admitted = λ a b c. true;
  keeps = λ r x. Unit {0};
  size = λ r. r;
  le = λ a b. true;
  same = λ a b. Unit {0};
  value = λ F. finite tt;
  dimension = 1;
}
