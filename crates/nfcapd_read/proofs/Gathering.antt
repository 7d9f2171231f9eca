-- What is read of the next part.
use Rattle.std.proofs.Common.{◌≡◌, ◌∙◌, ℕ, ◌+◌, ◌-◌, ◌<◌, ◌≤◌, List, [], ◌∷◌, ◌++◌, length, take, Ok, Err, Bool, true, Some, inl, inr, refl, sym, subst, ap, arith, append-nil, length-append}
use Rattle.std.proofs.lemmas.List.{length-take-le, take_all, take_at}
use lib.Seq.{take-append-add, take-append_seam}
use borrow.Rule.Slice.PartMut.{put_mid, post_of}
use Rattle.flow_io.specs.Devices.{InputView, Gives, MayFollow, ReadsInput}
use Rattle.flow_io.proofs.Moving.{gives_more}
use Rattle.nfcapd_read.specs.Gathering.{GathersPart}
use Rattle.nfcapd_read.specs.Reading.{part_fault, head_size, part_next, part_size}
use Rattle.nfcapd_read.specs.declared.fault.FlowFileFaultKind.{FlowFileFaultKind}
use Rattle.nfcapd_read.specs.declared.fault.FlowFileFaultKind.TheVariants.{Truncated}
use Rattle.nfcapd_read.specs.declared.file.PartStop.TheVariants.{Device, Fault}
use Rattle.nfcapd_read.specs.declared.reading.Reading.{Reading}
use Rattle.nfcapd_read.proofs.Parts.{bad_size, cut_head, cut_part, size_ahead}

-- nothing follows at the end of the input
pub none_follow : (bytes rest : List ℕ) (ended : Bool) → ended ≡ true → MayFollow ended rest → bytes ++ rest ≡ bytes
none_follow bytes rest ended end follows = ap (λ (l : List ℕ). bytes ++ l) (follows end) ∙ append-nil bytes

module _ (now : Reading) (xs ys : List ℕ) (o n : InputView) (got : ℕ) (given : Gives o n (take got ys)) (long : length ys ≡ head_size now.stage) where
  -- the reader failed in the head
  pub no_head : (m : InputView) (ended : Bool) → ReadsInput o m (λ taken. length taken < length ys) → ReadsInput o m (GathersPart now (Err Device) ended)
  no_head m ended r = (r.0, r.1, some_head r.0 r.2)
    where
      some_head : (taken : List ℕ) → length taken < length ys → GathersPart now (Err Device) ended taken
      some_head [] few = inl refl
      some_head (b ∷ taken) few = inr (omega arith, cut_head now (b ∷ taken) (omega (arith, few, long)))

  -- the input ended in the head
  pub short_head : (ended : Bool) → ended ≡ true → 0 < got → got < head_size now.stage → ReadsInput o n (GathersPart now (Err (Fault (part_fault now Truncated))) ended)
  short_head ended end some short =
      let size : length (take got ys) ≡ got = length-take-le got ys (omega (arith, long, short)) in (
        take got ys,
        given,
        (
          omega (arith, size, some),
          λ rest follows. ap (part_next now) (none_follow (take got ys) rest ended end follows) ∙ cut_head now (take got ys) (omega (arith, size, short)),
        ),
      )

  module _ (whole : head_size now.stage ≤ got) where
    all_given : Gives o n ys
    all_given = subst (λ (l : List ℕ). Gives o n l) (take_all got ys (omega (arith, long, whole))) given

    -- the head has a fault
    pub faulty_head : (ended : Bool) (fault : FlowFileFaultKind) → 0 < length ys → part_size now ys ≡ Err fault
        → ReadsInput o n (GathersPart now (Err (Fault (part_fault now fault))) ended)
    faulty_head ended fault some is = (
      ys,
      all_given,
      (
        some,
        λ rest follows.
            bad_size now (ys ++ rest) (omega (arith, long, length-append ys rest)) fault (size_ahead now ys rest (omega (arith, long)) ∙ is),
      ),
    )

    module _ (size : ℕ) (is : part_size now ys ≡ Ok size) (least : 0 < length ys) (m : InputView) (ended : Bool) where
      cut_off : (more : List ℕ) → length ys + length more < size → part_next now (ys ++ more) ≡ Err (part_fault now Truncated)
      cut_off more short =
          cut_part now (ys ++ more) (omega (arith, long, length-append ys more)) size (size_ahead now ys more (omega (arith, long)) ∙ is)
          (omega (arith, length-append ys more, short))

      -- the reader failed after the head
      pub no_rest : (zs : List ℕ) → size ≡ length ys + length zs → ReadsInput n m (λ taken. length taken < length zs)
          → ReadsInput o m (GathersPart now (Err Device) ended)
      no_rest zs all r = (
        ys ++ r.0,
        gives_more all_given r.1,
        inr (omega (arith, length-append ys r.0, least), cut_off r.0 (omega (arith, r.2, all))),
      )

      module _ (zs : List ℕ) (more : ℕ) (then' : Gives n m (take more zs)) (all : size ≡ length ys + length zs) where
        -- the input ended after the head
        pub short_part : ended ≡ true → more < length zs → ReadsInput o m (GathersPart now (Err (Fault (part_fault now Truncated))) ended)
        short_part end short =
            let part = ys ++ take more zs in
            let few : length ys + length (take more zs) < size = omega (arith, length-take-le more zs (omega (arith, short)), all, short) in (
              part,
              gives_more all_given then',
              (
                omega (arith, length-append ys (take more zs), least),
                λ rest follows. ap (part_next now) (none_follow part rest ended end follows) ∙ cut_off (take more zs) few,
              ),
            )

        -- the part was read
        pub whole_part : length zs ≤ more → ReadsInput o m (GathersPart now (Ok (Some (take size (put_mid (length ys) (size - length ys) (put_mid 0 (length ys) xs ys) zs)))) ended)
        whole_part most =
            let rest = post_of (length ys) (size - length ys) (put_mid 0 (length ys) xs ys) in
            let two : take size (put_mid (length ys) (size - length ys) (put_mid 0 (length ys) xs ys) zs) ≡ ys ++ zs =
            ap (λ (l : List ℕ). take size (l ++ (zs ++ rest))) (take_at ys (post_of 0 (length ys) xs) (length ys) refl)
            ∙ ap (λ (k : ℕ). take k (ys ++ (zs ++ rest))) all
            ∙ take-append-add ys (zs ++ rest) (length zs) ∙ ap (λ (l : List ℕ). ys ++ l) (take-append_seam zs rest) in
            let many : length (ys ++ zs) ≡ size = omega (arith, length-append ys zs, all) in (
              ys ++ zs,
              gives_more all_given (subst (λ (l : List ℕ). Gives n m l) (take_all more zs most) then'),
              (
                two,
                subst (λ (l : List ℕ). head_size now.stage ≤ length l) (sym two) (omega (arith, many, all, long)),
                subst (λ (l : List ℕ). part_size now l ≡ Ok (length l)) (sym two) (size_ahead now ys zs (omega (arith, long)) ∙ is ∙ ap Ok (sym many)),
              ),
            )

        pub part_whole : length zs ≤ more → (head : ℕ) → length ys ≡ head
            → ReadsInput o m (GathersPart now (Ok (Some (take size (put_mid head (size - head) (put_mid 0 head xs ys) zs)))) ended)
        part_whole most head same =
            subst (λ (h : ℕ). ReadsInput o m (GathersPart now (Ok (Some (take size (put_mid h (size - h) (put_mid 0 h xs ys) zs)))) ended)) same (whole_part most)
