-- Where there is room, the part is written over.
use Rattle.std.proofs.Common.{◌+◌, ◌-◌, List, ℕ, length, ◌∙◌, ap, sym}
use borrow.Author.Tests.{leb-true}
use borrow.Rule.Slice.PartMut.{put_mid}
use Rattle.text.proofs.Stores.{with-room}
use Rattle.writing.proofs.Counts.{part_sets}
use Rattle.writing.proofs.put_bytes.Goals as goal

pub returns : goal.returns
returns c =
    let out = c.args.out.now in
    let at = c.args.at in
    let bytes = c.args.bytes.now in
    let room = sym c.fits.ensures ∙ c.if-not-fits.false in
    let put = with-room out at bytes room in (
      put.0,
      ap (λ (part : List ℕ). put_mid at (at + length bytes - at) out part) c.copy_from_slice.ensures.after
          ∙ part_sets out bytes at (leb-true (at + length bytes) (length out) room)
          ∙ put.1,
    )
