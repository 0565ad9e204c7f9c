use Rattle.std.proofs.Common.{◌≡◌, ℕ, ◌/◌, ◌<◌, List, [], length, get_or, Some, None, Option, refl, ap, ◌∙◌, subst, arith}
use Rattle.continuation.proofs.Coding.{word_read, word_there}
use Rattle.continuation.proofs.Programs.{formed}
use Rattle.continuation.proofs.program.Program.word.Goals as goal
use Rattle.continuation.proofs.program.Program.word.Goals.{After-from}
use Rattle.continuation.specs.Decoding.{Decodes}
use Rattle.continuation.specs.Programs.{records_in}
use Rattle.language.proofs.Sizes.{held}
use Rattle.language.specs.declared.word.Word.{Word}
use Rattle.std.specs.Option.{IsSome}
use Rattle.std.specs.Simd.{first_chunks}

-- there are 976 words
within : (c : After-from) → c.args.at < length c.args.self.now.code / 8
within c =
    let p = c.args.self.now in
    let n : length p.code / 8 ≡ 976 = ap (λ k. k / 8) p.long in
    omega (arith, c.requires, (held (records_in p) (formed p)).words)

-- the row that is read
row : (c : After-from) → get_or c.as_chunks.result.0.now c.from.result [] ≡ get_or (first_chunks 8 (length c.args.self.now.code / 8) c.args.self.now.code) c.args.at []
row c = ap (λ (xs : List (List ℕ)). get_or xs c.from.result []) c.as_chunks.ensures.front ∙ ap (λ i. get_or (first_chunks 8 (length c.args.self.now.code / 8) c.args.self.now.code) i []) c.from.ensures

pub bounds-words-from : goal.bounds-words-from
bounds-words-from c = omega (arith, within (goal.at.bounds-words-from c).After-from, c.from.ensures, c.as_chunks.ensures.front_len)

-- the row stands for a word
stands : (r : List ℕ) (o : Option Word) → Decodes r o → (Decodes r None → ⊥) → IsSome o
stands r (Some w) d never = refl
stands r None d never = absurd (never d)

pub unwrap-requires : goal.unwrap-requires
unwrap-requires c =
    let p = c.args.self.now in
    let w = (goal.at.unwrap-requires c).After-from in
    stands _ c.decode.result c.decode.ensures (λ d. word_there (records_in p) (formed p) p.code p.coded c.args.at c.requires _ (within w) (subst (λ r. Decodes r None) (row w) d))

pub returns : goal.returns
returns c =
    let p = c.args.self.now in
    let w = (goal.at.returns c).After-from in
    let read = subst (Decodes (get_or c.as_chunks.result.0.now c.from.result [])) c.unwrap.ensures c.decode.ensures in
    word_read (records_in p) (formed p) p.code p.coded c.args.at c.requires _ (within w) c.unwrap.result (subst (λ r. Decodes r (Some c.unwrap.result)) (row w) read)
