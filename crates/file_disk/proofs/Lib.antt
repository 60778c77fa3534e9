mod SegmentNames
