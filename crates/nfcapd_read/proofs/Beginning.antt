-- The first bytes of a file of nfcapd.
use Rattle.std.proofs.Common.{◌≡◌, ◌∙◌, ℕ, ◌+◌, ◌<◌, ◌≤◌, List, [], ◌++◌, length, take, None, Result, Ok, Err, Bool, true, refl, sym, subst, ap, arith, append_assoc, length-append}
use Rattle.std.proofs.lemmas.Bool.{le-ltb}
use Rattle.std.proofs.lemmas.List.{length-take-le, take_all, take_at}
use lib.Seq.{take-append-add}
use borrow.Rule.Slice.PartMut.{put_mid, post_of}
use Rattle.std.specs.Prelude.{IfErr}
use Rattle.std.specs.Result.{result_map_both}
use Rattle.byteorder.specs.Endian.{little_number}
use Rattle.byteorder.specs.Numbers.{little_from-append}
use Rattle.flow_io.specs.Devices.{InputView, Gives, ReadsInput}
use Rattle.flow_io.proofs.Moving.{gives_more}
use Rattle.nfcapd_read.specs.Encode.{file_of_flows, packed}
use Rattle.nfcapd_read.specs.File.{ipfix_of, is_nfcapd}
use Rattle.nfcapd_read.specs.Making.{after_bytes}
use Rattle.nfcapd_read.specs.Reading.{after_flows, after_part, part_fault, flows_from, flows_reading, part_next, started}
use Rattle.nfcapd_read.specs.Opening.{Begins}
use Rattle.nfcapd_read.specs.declared.encode.TheConstants.{TEMPLATES}
use Rattle.nfcapd_read.specs.declared.fault.FlowFileFault.{FlowFileFault}
use Rattle.nfcapd_read.specs.declared.fault.FlowFileFaultKind.{FlowFileFaultKind}
use Rattle.nfcapd_read.specs.declared.fault.FlowFileFaultKind.TheVariants.{Truncated}
use Rattle.nfcapd_read.specs.declared.file.Begun.TheVariants.{Flows}
use Rattle.nfcapd_read.specs.declared.file.PartStop.TheVariants.{Device, Fault}
use Rattle.nfcapd_read.specs.declared.flow.Flow.{Flow}
use Rattle.nfcapd_read.specs.declared.reading.Reading.{Reading}
use Rattle.nfcapd_read.proofs.Gathering.{none_follow}
use Rattle.nfcapd_read.proofs.Parts.{cut_head, flows_fault, flows_step, part_faulty, part_read}

templates_first : (reading : Result (List Flow) FlowFileFault)
    → result_map_both file_of_flows (λ fault. fault) (after_flows [] reading) ≡ after_bytes TEMPLATES (result_map_both (packed [] []) (λ fault. fault) reading)
templates_first (Ok flows) = refl
templates_first (Err fault) = refl

module _ (allow : Bool) (ys : List ℕ) (long : length ys ≡ 2) (magic : little_number 2 ys ≡ 42252) where
  is_file : (more : List ℕ) → is_nfcapd (ys ++ more) ≡ true
  is_file more =
      let number : little_number 2 (ys ++ more) ≡ 42252 = little_from-append 2 ys more (omega (arith, long)) ∙ magic in
      rw (le-ltb (length (ys ++ more)) 2 (omega (arith, long, length-append ys more)), number) refl

  text_is : (more : List ℕ) → ipfix_of allow (ys ++ more) ≡ result_map_both file_of_flows (λ fault. fault) (flows_reading allow (ys ++ more))
  text_is more = rw (is_file more) refl

  text_faulty : (more : List ℕ) (fault : FlowFileFault) → part_next (started allow) (ys ++ more) ≡ Err fault → ipfix_of allow (ys ++ more) ≡ Err fault
  text_faulty more fault is =
      text_is more ∙ ap (result_map_both file_of_flows (λ fault. fault)) (flows_fault (started allow) (ys ++ more) (omega (arith, long, length-append ys more)) fault is)

  text_cut : (more : List ℕ) → length more < 38 → ipfix_of allow (ys ++ more) ≡ Err (part_fault (started allow) Truncated)
  text_cut more short = text_faulty more (part_fault (started allow) Truncated) (cut_head (started allow) (ys ++ more) (omega (arith, long, length-append ys more, short)))

  module _ (o n m : InputView) (count : ℕ) (given : Gives o n (take count ys)) (whole : 2 ≤ count) (buffer : List ℕ) (ended : Bool) where
    all_given : Gives o n ys
    all_given = subst (λ (l : List ℕ). Gives o n l) (take_all count ys (omega (arith, long, whole))) given

    pub begins_device : ReadsInput n m (λ taken. length taken < 38) → ReadsInput o m (Begins allow buffer (Err Device) ended)
    begins_device (taken, gives, short) = (
      ys ++ taken,
      gives_more all_given gives,
      (
        λ no. let e = sym (is_file taken) ∙ no in absurd (cc),
        subst (λ (r : Result (List ℕ) FlowFileFault). IfErr r (λ fault. fault.kind ≡ Truncated)) (sym (text_cut taken short)) refl,
      ),
    )

    module _ (zs : List ℕ) (got : ℕ) (then' : Gives n m (take got zs)) (size : length zs ≡ 38) where
      pub begins_cut : ended ≡ true → got < 38 → ReadsInput o m (Begins allow buffer (Err (Fault (part_fault (started allow) Truncated))) ended)
      begins_cut end short = (
        ys ++ take got zs,
        gives_more all_given then',
        λ rest follows.
            ap (ipfix_of allow) (none_follow (ys ++ take got zs) rest ended end follows)
            ∙ text_cut (take got zs) (omega (arith, length-take-le got zs (omega (arith, size, short)), short)),
      )

      module _ (most : 38 ≤ got) (part : List ℕ) (is : part ≡ ys ++ zs) where
        all_taken : Gives o m (ys ++ zs)
        all_taken = gives_more all_given (subst (λ (l : List ℕ). Gives n m l) (take_all got zs (omega (arith, size, most))) then')

        forty : length (ys ++ zs) ≡ 40
        forty = omega (arith, long, size, length-append ys zs)

        pub begins_fault : (kind : FlowFileFaultKind) → after_part (started allow) part ≡ Err kind
            → ReadsInput o m (Begins allow buffer (Err (Fault (part_fault (started allow) kind))) ended)
        begins_fault kind bad = (
          ys ++ zs,
          all_taken,
          λ rest follows.
              ap (ipfix_of allow) (append_assoc ys zs rest)
              ∙ text_faulty (zs ++ rest) (part_fault (started allow) kind)
              (ap (part_next (started allow)) (sym (append_assoc ys zs rest))
              ∙ part_faulty (started allow) (ys ++ zs) rest (omega (arith, forty)) (ap Ok (sym forty)) kind
              (ap (after_part (started allow)) (sym is) ∙ bad)),
        )

        pub begins_flows : (next : Reading) → after_part (started allow) part ≡ Ok (next, None) → ReadsInput o m (Begins allow buffer (Ok (Flows next)) ended)
        begins_flows next good = (
          ys ++ zs,
          all_taken,
          (
            forty,
            λ rest.
                ap (ipfix_of allow) (append_assoc ys zs rest)
                ∙ text_is (zs ++ rest)
                ∙ ap (λ (l : List ℕ). result_map_both file_of_flows (λ fault. fault) (flows_from (started allow) l)) (sym (append_assoc ys zs rest))
                ∙ ap (result_map_both file_of_flows (λ fault. fault))
                (flows_step (started allow) ((ys ++ zs) ++ rest) (omega (arith, forty, length-append (ys ++ zs) rest)) (next, None) rest
                (part_read (started allow) (ys ++ zs) rest (omega (arith, forty)) (ap Ok (sym forty)) (next, None)
                (ap (after_part (started allow)) (sym is) ∙ good)))
                ∙ templates_first (flows_from next rest),
            λ rest. ap is_nfcapd (append_assoc ys zs rest) ∙ is_file (zs ++ rest),
          ),
        )

-- both reads, at the start of a buffer
pub forty_read : (ys zs xs : List ℕ) → length ys ≡ 2 → length zs ≡ 38 → take 40 (put_mid 2 38 (ys ++ xs) zs) ≡ ys ++ zs
forty_read ys zs xs long size =
    let rest = post_of 2 38 (ys ++ xs) in
    let parts : 40 ≡ length ys + 38 = omega (arith, long) in
    ap (λ (l : List ℕ). take 40 (l ++ (zs ++ rest))) (take_at ys xs 2 long)
    ∙ ap (λ (k : ℕ). take k (ys ++ (zs ++ rest))) parts
    ∙ take-append-add ys (zs ++ rest) 38 ∙ ap (λ (l : List ℕ). ys ++ l) (take_at zs rest 38 size)
