-- Bytes of a script, one more at a time.
use Rattle.std.proofs.Common.{◌≡◌, ℕ, ◌+◌, ◌<◌, List, [], ◌∷◌, ◌++◌, length, get_or, take, sym, refl, ap, ◌∙◌, subst, append_assoc, append-nil}
use Rattle.std.proofs.lemmas.List.{take_more}
use Rattle.reader.specs.Transcript.{Standing, Takes, Feeds, Fed, PiecesJoin}

-- the text so far gets what is written for a byte
abbrev pub Taken : Standing → ℕ → List ℕ → List ℕ → Standing → Type 0
Taken start byte before after end = (output : List ℕ) × Takes start byte output end × (after ≡ before ++ output)

-- bytes after others
pub feeds_then : PiecesJoin
unfolding Feeds
feeds_then start [] output next more rest end (none, same) fed =
    subst (λ (o : List ℕ). Feeds start more (o ++ rest) end) (sym none) (subst (λ (at : Standing). Feeds at more rest end) same fed)
feeds_then start (byte ∷ bytes) output next more rest end (first, second, others, takes, fed, all) fed_then =
    (first, second, others ++ rest, takes, feeds_then second bytes others next more rest end fed fed_then, ap (λ o. o ++ rest) all ∙ append_assoc first others rest)

-- a byte alone
pub feeds_one : (start : Standing) (byte : ℕ) (output : List ℕ) (end : Standing) → Takes start byte output end → Feeds start (byte ∷ []) output end
unfolding Feeds
feeds_one start byte output end takes = (output, end, [], takes, (refl, refl), sym (append-nil output))

-- no bytes
pub fed_none : (start : Standing) (bytes before : List ℕ) → Fed start (take 0 bytes) before before start
unfolding Feeds
fed_none start bytes before = ([], (refl, refl), sym (append-nil before))

-- the byte at i after those before it
pub fed_more :
    (start : Standing) (bytes before : List ℕ) (i : ℕ) (so_far : List ℕ) (next : Standing) (after : List ℕ) (end : Standing) →
    i < length bytes → Fed start (take i bytes) before so_far next → Taken next (get_or bytes i 0) so_far after end →
    Fed start (take (i + 1) bytes) before after end
fed_more start bytes before i so_far next after end less (output, fed, front) (more, takes, grown) = (
  output ++ more,
  subst (λ (bs : List ℕ). Feeds start bs (output ++ more) end) (sym (take_more bytes i 0 less)) (feeds_then start (take i bytes) output next (get_or bytes i 0 ∷ []) more end fed (feeds_one next (get_or bytes i 0) more end takes)),
  grown ∙ (ap (λ o. o ++ more) front ∙ append_assoc before output more),
)
