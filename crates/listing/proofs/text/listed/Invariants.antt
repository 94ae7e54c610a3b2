use Rattle.std.proofs.Common.{◌≡◌, take, string_bytes}
use Rattle.listing.specs.Text.{listed}
use Rattle.listing.proofs.text.listed.Given as goal

-- the text holds the positions so far
abbrev pub invariant-loop-p : goal.invariant-loop-p
invariant-loop-p l = string_bytes l.text ≡ listed (take l.p-index l.list)
