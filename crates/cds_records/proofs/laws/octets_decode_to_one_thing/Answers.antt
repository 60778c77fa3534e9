use Rattle.cds_records.specs.Images.{image, image_1, either_image}
use Rattle.cds_records.specs.Records.{message}
use Rattle.record_fields.proofs.OneDecoding.{decoding_decodes}
use Rattle.cds_records.proofs.laws.octets_decode_to_one_thing.Goals as goal

pub returns-clause-messages : goal.returns-clause-messages
returns-clause-messages c = decoding_decodes message

pub returns-clause-images : goal.returns-clause-images
returns-clause-images c = decoding_decodes image

pub returns-clause-former_images : goal.returns-clause-former_images
returns-clause-former_images c = decoding_decodes image_1

pub returns-clause-either : goal.returns-clause-either
returns-clause-either c = decoding_decodes either_image
