-- What is kept of a number's bytes, and what it answers.
-- Document 02, g): "fed byte by byte, with only the number so far and one mark kept. After any bytes it answers as the reader does for them as a whole field."
use Rattle.std.specs.Prelude.{ℕ, true, false, List, [], ◌∷◌, ◌++◌, ◌≡◌, Option, Some, None}
use Rattle.model.specs.Number.{number_of}
use Rattle.numbers.specs.declared.Reader.{Reader}

-- The largest upper end of a number.
abbrev pub largest : ℕ
largest = 4294967295

-- A number that is past it, so that it is past every upper end.
abbrev pub past : ℕ
past = 4294967296

abbrev pub or_past : Option ℕ → ℕ
or_past (Some n) = n
or_past None = past

-- Some bytes are a number, or none.
abbrev pub kept : Option ℕ → Reader
kept f = record { number = or_past f; begun = true }

-- What is kept after any bytes: that there was none yet, or what they are as a whole field under the largest upper end.
unfoldable pub after : List ℕ → Reader
after [] = record { number = 0; begun = false }
after (b ∷ bs) = kept (number_of largest (b ∷ bs))

-- Whatever the bytes before were, this byte is one more.
unfoldable pub Feeds : Reader → ℕ → Reader → Type 0
Feeds reader b next = (s : List ℕ) → reader ≡ after s → next ≡ after (s ++ (b ∷ []))

-- Whatever the bytes were, this is their number where numbers go up to `most`.
unfoldable pub Answers : Reader → ℕ → Option ℕ → Type 0
Answers reader most answer = (s : List ℕ) → reader ≡ after s → answer ≡ number_of most s

-- A reader that was started, and fed these bytes one by one: each step is what the contracts of `start` and `feed` say.
pub data Fed : List ℕ → Reader → Type 0 where
  started : {reader : Reader} → reader ≡ after [] → Fed [] reader
  fed : {s : List ℕ} {reader next : Reader} (b : ℕ) → Fed s reader → Feeds reader b next → Fed (s ++ (b ∷ [])) next
