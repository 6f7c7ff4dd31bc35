use Rattle.std.proofs.Common.{◌∙◌}
use Rattle.text_grammar.specs.Bits.{bits_of}
use Rattle.front_scripts.proofs.KeptBits.{both_as_many, other_length, same_line}
use Rattle.front_scripts.proofs.scripted_clerk.line_written.Goals as goal

pub returns-clause-length : goal.returns-clause-length
returns-clause-length c =
    let x = c.as_slice.ensures ∙ c.kept.ensures in
    let up = c.as_slice-2.ensures ∙ c.kept-2.ensures in
    let told = c.from_bits.ensures.length in (
      λ is. ((told.0 is).0, (other_length _ _ _ _ c.args.n (told.0 is).0.1 x up).0 (told.0 is).1),
      λ no. told.1 (no.0, (other_length _ _ _ _ c.args.n no.0.1 x up).1 no.1),
    )

pub returns-clause-ok : goal.returns-clause-ok
returns-clause-ok c =
    let x = c.as_slice.ensures ∙ c.kept.ensures in
    let up = c.as_slice-2.ensures ∙ c.kept-2.ensures in
    let told = c.from_bits.ensures.ok in (
      λ is. ((told.0 is).0, (both_as_many _ _ _ _ c.args.n (told.0 is).0.1 x up).0 (told.0 is).1),
      λ no. told.1 (no.0, (both_as_many _ _ _ _ c.args.n no.0.1 x up).1 no.1),
    )

pub returns-clause-bits : goal.returns-clause-bits
returns-clause-bits c =
    same_line c.from_bits.result (bits_of c.args.x) c.as_slice.result.now (bits_of c.args.up)
    c.as_slice-2.result.now c.args.n (c.as_slice.ensures ∙ c.kept.ensures)
    (c.as_slice-2.ensures ∙ c.kept-2.ensures)
    (λ is. let told = c.from_bits.ensures.ok.0 is in (told.0.1, told.1)) c.from_bits.ensures.bits
